use Rattle.std.proofs.Common.{◌≡◌, ◌∙◌, ℕ, ◌+◌, List, [], ◌∷◌, ◌++◌, Option, length, ap, sym, subst, arith}
use Rattle.std.specs.Option.{is_some, option_to_list}
use Rattle.std.specs.Vec.Iter.{into_iter_items}
use Rattle.ecp_book.specs.Logs.{Known, Log}
use Rattle.ecp_sequencer.specs.Facts.{HandFacts, is_open, room_noted}
use Rattle.ecp_sequencer.specs.Sequencers.{AreTies}
use Rattle.ecp_sequencer.specs.Ties.{TieState}
use Rattle.ecp_sequencer.proofs.NoteLaws.{facts_of-none}
use Rattle.ecp_sequencer.proofs.StartLaws.{next_tie}
use Rattle.ecp_sequencer.proofs.start.next_hand.Goals as goal

pub invariant_of-push : goal.invariant_of-push
invariant_of-push g c =
    let one : Known = c.unwrap-one.result in
    let other : Known = c.unwrap-other.result in
    let rest : List Known = into_iter_items c.next-2.new.self in
    let first : into_iter_items c.args.keepers.now ≡ one ∷ into_iter_items c.next.new.self =
    c.next.ensures.items ∙ ap (λ (o : Option Known). option_to_list o ++ into_iter_items c.next.new.self) c.unwrap-one.ensures in
    let second : into_iter_items c.next.new.self ≡ other ∷ rest =
    c.next-2.ensures.items ∙ ap (λ (o : Option Known). option_to_list o ++ rest) c.unwrap-other.ensures in
    let ties : AreTies g.N.Names.shape.nodes c.len-number.result (one ∷ other ∷ rest) =
    subst (λ (ks : List Known). AreTies g.N.Names.shape.nodes c.len-number.result ks) (first ∙ ap (λ (ks : List Known). one ∷ ks) second)
    (subst (λ (n : ℕ). AreTies g.N.Names.shape.nodes n (into_iter_items c.args.keepers.now)) (sym c.len-number.ensures) c.requires.ties) in
    let tied = next_tie g.N.Names.shape.nodes c.len-number.result one other rest ties in
    let pair = c.pair-spoken.ensures.other in
    let none : c.pair-spoken.result.1.items ≡ [] = ap (λ (t : TieState). t.items) pair in (
      record {
        speaks_to = ap (λ (t : TieState). t.speaks) pair ∙ ap (λ (k : Known). k.log) tied.1;
        hears_from = ap (λ (t : TieState). t.hears) pair ∙ ap (λ (k : Known). k.log) tied.0;
        counted = sym (ap room_noted none ∙ ap (λ (f : HandFacts). f.room) facts_of-none);
        most = omega arith;
        places = omega (arith, ap (λ (ns : Log). length ns) none);
      },
      sym (ap is_open none ∙ ap (λ (f : HandFacts). is_some f.call) facts_of-none),
    )

pub invariant_of-result : goal.invariant_of-result
invariant_of-result g c =
    let one : Known = c.unwrap-one.result in
    let other : Known = c.unwrap-other.result in
    let rest : List Known = into_iter_items c.next-2.new.self in
    let first : into_iter_items c.args.keepers.now ≡ one ∷ into_iter_items c.next.new.self =
    c.next.ensures.items ∙ ap (λ (o : Option Known). option_to_list o ++ into_iter_items c.next.new.self) c.unwrap-one.ensures in
    let second : into_iter_items c.next.new.self ≡ other ∷ rest =
    c.next-2.ensures.items ∙ ap (λ (o : Option Known). option_to_list o ++ rest) c.unwrap-other.ensures in
    let ties : AreTies g.N.Names.shape.nodes c.len-number.result (one ∷ other ∷ rest) =
    subst (λ (ks : List Known). AreTies g.N.Names.shape.nodes c.len-number.result ks) (first ∙ ap (λ (ks : List Known). one ∷ ks) second)
    (subst (λ (n : ℕ). AreTies g.N.Names.shape.nodes n (into_iter_items c.args.keepers.now)) (sym c.len-number.ensures) c.requires.ties) in
    let tied = next_tie g.N.Names.shape.nodes c.len-number.result one other rest ties in
    let pair = c.pair-spoken.ensures.one in
    (ap (λ (t : TieState). t.speaks) pair ∙ ap (λ (k : Known). k.log) tied.0, ap (λ (t : TieState). t.hears) pair ∙ ap (λ (k : Known). k.log) tied.1)

pub returns-clause-ties : goal.returns-clause-ties
returns-clause-ties g c =
    let one : Known = c.unwrap-one.result in
    let other : Known = c.unwrap-other.result in
    let rest : List Known = into_iter_items c.next-2.new.self in
    let first : into_iter_items c.args.keepers.now ≡ one ∷ into_iter_items c.next.new.self =
    c.next.ensures.items ∙ ap (λ (o : Option Known). option_to_list o ++ into_iter_items c.next.new.self) c.unwrap-one.ensures in
    let second : into_iter_items c.next.new.self ≡ other ∷ rest =
    c.next-2.ensures.items ∙ ap (λ (o : Option Known). option_to_list o ++ rest) c.unwrap-other.ensures in
    let ties : AreTies g.N.Names.shape.nodes c.len-number.result (one ∷ other ∷ rest) =
    subst (λ (ks : List Known). AreTies g.N.Names.shape.nodes c.len-number.result ks) (first ∙ ap (λ (ks : List Known). one ∷ ks) second)
    (subst (λ (n : ℕ). AreTies g.N.Names.shape.nodes n (into_iter_items c.args.keepers.now)) (sym c.len-number.ensures) c.requires.ties) in
    subst (λ (n : ℕ). AreTies g.N.Names.shape.nodes (n + 1) rest) c.len-number.ensures (next_tie g.N.Names.shape.nodes c.len-number.result one other rest ties).2
