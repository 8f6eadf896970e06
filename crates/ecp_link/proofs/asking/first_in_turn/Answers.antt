use Rattle.ecp_link.specs.declared.asking.Found.{Found}
use Rattle.ecp_link.specs.Links.{TakesInTurn}
use Rattle.ecp_link.specs.Among.{TakesAmong}
use Rattle.ecp_link.proofs.Asked.{some_then, none_then, takes_first, takes_later, none_of_any}
use Rattle.ecp_link.proofs.asking.first_in_turn.Goals as goal

pub returns-in-Some-clause-some : goal.returns-in-Some-clause-some
returns-in-Some-clause-some g c = takes_first _ _ _ _ _ c.in-Some.ensures.some

pub returns-in-None-clause-some : goal.returns-in-None-clause-some
returns-in-None-clause-some g c =
    let old = c.args.ends.now in
    let between = c.first_among.new.ends in
    let new = c.first_among-in-None.new.ends in
    some_then
    (λ (f : Found g.row.T.Denot). TakesAmong 0 c.args.next between new f.from f.item)
    (λ (f : Found g.row.T.Denot). TakesInTurn c.args.next old new f.from f.item)
    c.first_among-in-None.result
    (λ f h. takes_later c.args.next f.from old between new f.item c.in-None.ensures.none h)
    c.first_among-in-None.ensures.some

pub returns-in-None-clause-none : goal.returns-in-None-clause-none
returns-in-None-clause-none g c =
    let old = c.args.ends.now in
    let between = c.first_among.new.ends in
    let new = c.first_among-in-None.new.ends in
    none_then c.first_among-in-None.result
    (λ h. none_of_any c.args.next old between new c.in-None.ensures.none h)
    c.first_among-in-None.ensures.none
