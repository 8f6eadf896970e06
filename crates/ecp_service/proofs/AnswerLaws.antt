-- What a call was answered by, from what the service says of it.
use Rattle.std.proofs.Common.{◌≡◌, ℕ, Bool, false, List, [], length, Result, Ok, Err, IfOk, refl, sym, ◌∙◌, ap, subst}
use Rattle.ecp_cluster.specs.Answered.{Answered}
use Rattle.ecp_cluster.specs.Puts.{bytes_stored}
use Rattle.ecp_cluster.specs.Summed.{Summed, no_digest}
use Rattle.ecp_cluster.specs.Whole.{ReadWhole}
use Rattle.ecp_cluster.specs.declared.answer.Answer.{Answer}
use Rattle.ecp_command.specs.declared.input.call.Call as the_call
use Rattle.ecp_command.specs.declared.input.call.Call.TheVariants.{Put, Read, Sum, Cat, Lose, Join, Stat}
use Rattle.ecp_entry.specs.declared.act.Act.{Act}
use Rattle.ecp_entry.specs.declared.deed.Deed.TheVariants as deed
use Rattle.ecp_sequencer.specs.Passes.{PassState}
use Rattle.ecp_service.specs.Asked.{deed_of}
use Rattle.ecp_service.specs.Served.{AnsweredCall, Gives, HasParts}
use Rattle.ecp_shape.specs.declared.shape.Shape.{Shape}

module _ (shape : Shape) (told : Bool) (v w : PassState) where
  -- a call that has one entry
  by_one : (call : the_call.Call) (act : Act) (a : Answer) (given : List ℕ) → Answered shape told v (deed_of call) act given w → a.act ≡ act → HasParts call a [] → Gives call a given
      → AnsweredCall shape told v call a w
  by_one call act a given answered same none gives = record {
    parts = [];
    last = answered.entry;
    called = answered.called;
    act = answered.act ∙ sym same;
    parted = none;
    gives = subst (Gives call a) (sym answered.bytes) gives;
  }

  -- a put
  pub put_answered : (call : the_call.Call) (name bytes said given : List ℕ) (act : Act) (a : Answer) → call ≡ Put name bytes → said ≡ name → given ≡ bytes → a.act ≡ act
      → Answered shape told v (deed.Put said (length given)) act (bytes_stored act given) w → AnsweredCall shape told v call a w
  put_answered call name bytes said given act a is same_name same_bytes same_act answered =
      subst (λ (c : the_call.Call). AnsweredCall shape told v c a w) (sym is)
      (by_one (Put name bytes) act a (bytes_stored act bytes)
      (subst (λ (xs : List ℕ). Answered shape told v (deed.Put name (length xs)) act (bytes_stored act xs) w) same_bytes
      (subst (λ (n : List ℕ). Answered shape told v (deed.Put n (length given)) act (bytes_stored act given) w) same_name answered))
      same_act refl (ap (λ (x : Act). bytes_stored x bytes) (sym same_act)))

  -- a read
  pub read_answered : {X : Type 0} (call : the_call.Call) (name said : List ℕ) (index : ℕ) (r : Result Answer X) → call ≡ Read name index → said ≡ name
      → IfOk r (λ a. Answered shape told v (deed.Read said index) a.act a.bytes w) → IfOk r (λ a. (a.by_digest ≡ false) × (a.digest ≡ no_digest)) → IfOk r (λ a. AnsweredCall shape told v call a w)
  read_answered call name said index (Ok a) is same answered plain =
      subst (λ (c : the_call.Call). AnsweredCall shape told v c a w) (sym is)
      (by_one (Read name index) a.act a a.bytes (subst (λ (n : List ℕ). Answered shape told v (deed.Read n index) a.act a.bytes w) same answered) refl refl (refl, plain.0))
  read_answered call name said index (Err e) is same answered plain = tt

  -- a sum
  pub sum_answered : {X : Type 0} (call : the_call.Call) (name said : List ℕ) (index : ℕ) (r : Result Answer X) → call ≡ Sum name index → said ≡ name
      → IfOk r (λ a. Summed shape told v (deed.Sum said index) a w) → IfOk r (λ a. AnsweredCall shape told v call a w)
  sum_answered call name said index (Ok a) is same summed =
      subst (λ (c : the_call.Call). AnsweredCall shape told v c a w) (sym is)
      (by_one (Sum name index) a.act a summed.bytes (subst (λ (n : List ℕ). Answered shape told v (deed.Sum n index) a.act summed.bytes w) same summed.answered) refl refl (summed.by_digest, summed.digest))
  sum_answered call name said index (Err e) is same summed = tt

  -- a call that reads a file whole
  pub cat_answered : {X : Type 0} (call : the_call.Call) (name said : List ℕ) (r : Result Answer X) → call ≡ Cat name → said ≡ name
      → IfOk r (λ a. ReadWhole shape told v said a w) → IfOk r (λ a. AnsweredCall shape told v call a w)
  cat_answered call name said (Ok a) is same given =
      let read : ReadWhole shape told v name a w = subst (λ (n : List ℕ). ReadWhole shape told v n a w) same given in
      subst (λ (c : the_call.Call). AnsweredCall shape told v c a w) (sym is) (record {
        parts = read.parts;
        last = read.last;
        called = read.called;
        act = read.act;
        parted = record {
          numbered = read.numbered;
          counted = read.counted;
          len = read.len;
          cause = read.cause;
          digest = read.digest;
          none = read.none;
        };
        gives = tt;
      })
  cat_answered call name said (Err e) is same given = tt

  -- a call that names a node
  pub lose_answered : (call : the_call.Call) (node : ℕ) (act : Act) (a : Answer) → call ≡ Lose node → a.act ≡ act → a.bytes ≡ []
      → Answered shape told v (deed.Lose node) act [] w → AnsweredCall shape told v call a w
  lose_answered call node act a is same_act none answered =
      subst (λ (c : the_call.Call). AnsweredCall shape told v c a w) (sym is) (by_one (Lose node) act a [] answered same_act refl (sym none))

  pub join_answered : (call : the_call.Call) (node : ℕ) (act : Act) (a : Answer) → call ≡ Join node → a.act ≡ act → a.bytes ≡ []
      → Answered shape told v (deed.Join node) act [] w → AnsweredCall shape told v call a w
  join_answered call node act a is same_act none answered =
      subst (λ (c : the_call.Call). AnsweredCall shape told v c a w) (sym is) (by_one (Join node) act a [] answered same_act refl (sym none))

  -- a call for the sizes of a file
  pub stat_answered : (call : the_call.Call) (name said : List ℕ) (act : Act) (a : Answer) → call ≡ Stat name → said ≡ name → a.act ≡ act → a.bytes ≡ []
      → Answered shape told v (deed.Stat said) act [] w → AnsweredCall shape told v call a w
  stat_answered call name said act a is same same_act none answered =
      subst (λ (c : the_call.Call). AnsweredCall shape told v c a w) (sym is)
      (by_one (Stat name) act a [] (subst (λ (n : List ℕ). Answered shape told v (deed.Stat n) act [] w) same answered) same_act refl (sym none))
