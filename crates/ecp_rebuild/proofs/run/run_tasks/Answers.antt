use Rattle.std.proofs.Common.{◌≡◌, ◌∙◌, ◌<◌, length, vec_len, ap, sym, subst, arith}
use Rattle.std.specs.Prelude.{All}
use Rattle.std.specs.List.{AllZip}
use Rattle.std.proofs.lemmas.List.{length-reverse, with_items_is}
use Rattle.std.proofs.lemmas.List.Elements.{All-weaker}
use Rattle.std.proofs.lemmas.Slice.Zip.{AllZip-long}
use mathlib.Core.List.{reverse}
use Rattle.crossbeam_queue.specs.Passes.{view}
use Rattle.ecp_rebuild.specs.Workers.{jobs_from, HaveRoom, IsSeated, IsReady, TookItsOwn, Worked, Finishes}
use Rattle.ecp_rebuild.proofs.Numbering.{length_jobs, are_jobs, numbers_below}
use Rattle.ecp_rebuild.proofs.Running.{Begins, all_begin, Ends, all_end, run_fit, run_same, run_did, run_answers}
use Rattle.ecp_rebuild.proofs.run.run_tasks.Goals as goal

pub seat-requires-clause-room : goal.seat-requires-clause-room
seat-requires-clause-room g c =
    let made = c.in-Ok.ensures in
    let long = ap (λ v. length v.jobs) made.jobs ∙ length_jobs 0 c.as_slice.result.now in
    subst (λ n. HaveRoom n c.in-Ok.prepared.rooms.items) (sym long) made.rooms.1

pub work_at_once-requires-clause-some : goal.work_at_once-requires-clause-some
work_at_once-requires-clause-some g c =
    let many : c.seat.new.workers.len ≡ vec_len c.args.hands =
    omega (arith, c.seat.new.workers.ok.0, c.args.hands.ok.0, length-reverse c.seat.new.workers.items, AllZip-long (IsSeated _ _) c.args.hands.items (reverse c.seat.new.workers.items) c.seat.ensures.seated) in
    λ κs out. omega (arith, c.as_mut_slice.ensures.len, many, c.requires.hands)

pub work_at_once-requires-clause-ready : goal.work_at_once-requires-clause-ready
work_at_once-requires-clause-ready g c =
    let tasks = c.args.tasks.items in
    let jobs : (view c.in-Ok.prepared.pass).jobs ≡ jobs_from 0 tasks = ap (λ v. v.jobs) c.in-Ok.ensures.jobs ∙ ap (jobs_from 0) c.as_slice.ensures.value in
    let q = c.in-Ok.prepared.queue in
    let fit = g.M.Mender.fit c.args.m.now in
    let takes = g.M.Mender.takes c.args.m.now in
    let answers = g.M.Mender.answers c.args.m.now in
    let did = g.M.Mender.did in
    let who = g.M.Mender.who in
    let os = c.seat.new.workers.items in
    let seated = subst (λ js. AllZip (IsSeated q js) c.args.hands.items (reverse os)) jobs c.seat.ensures.seated in
    let are = are_jobs tasks takes c.requires.parts c.requires.takes in
    let begin : All (Begins q fit takes answers did who tasks) os = all_begin q fit takes answers did who tasks are c.args.hands.items os seated c.requires.fit c.requires.fresh in
    λ κs out. subst (λ l. All (IsReady q fit takes did) l) (sym c.as_mut_slice.ensures.value)
    (All-weaker (Begins q fit takes answers did who tasks) (IsReady q fit takes did) (λ w b. b.ready) os begin)

pub end_run-requires-clause-parts : goal.end_run-requires-clause-parts
end_run-requires-clause-parts g c =
    let many : c.seat.new.workers.len ≡ vec_len c.args.hands =
    omega (arith, c.seat.new.workers.ok.0, c.args.hands.ok.0, length-reverse c.seat.new.workers.items, AllZip-long (IsSeated _ _) c.args.hands.items (reverse c.seat.new.workers.items) c.seat.ensures.seated) in
    omega (arith, many, ap (λ v. v.parts) c.seat.ensures.view, ap (λ v. v.parts) c.in-Ok.ensures.jobs, c.as_mut_slice.type_inv.0, c.as_mut_slice.ensures.len)

pub end_run-requires-clause-some : goal.end_run-requires-clause-some
end_run-requires-clause-some g c =
    let many : c.seat.new.workers.len ≡ vec_len c.args.hands =
    omega (arith, c.seat.new.workers.ok.0, c.args.hands.ok.0, length-reverse c.seat.new.workers.items, AllZip-long (IsSeated _ _) c.args.hands.items (reverse c.seat.new.workers.items) c.seat.ensures.seated) in
    omega (arith, many, c.requires.hands)

pub end_run-requires-clause-own : goal.end_run-requires-clause-own
end_run-requires-clause-own g c =
    let tasks = c.args.tasks.items in
    let jobs : (view c.in-Ok.prepared.pass).jobs ≡ jobs_from 0 tasks = ap (λ v. v.jobs) c.in-Ok.ensures.jobs ∙ ap (jobs_from 0) c.as_slice.ensures.value in
    let q = c.in-Ok.prepared.queue in
    let fit = g.M.Mender.fit c.args.m.now in
    let takes = g.M.Mender.takes c.args.m.now in
    let answers = g.M.Mender.answers c.args.m.now in
    let did = g.M.Mender.did in
    let who = g.M.Mender.who in
    let os = c.seat.new.workers.items in
    let seated = subst (λ js. AllZip (IsSeated q js) c.args.hands.items (reverse os)) jobs c.seat.ensures.seated in
    let are = are_jobs tasks takes c.requires.parts c.requires.takes in
    let begin : All (Begins q fit takes answers did who tasks) os = all_begin q fit takes answers did who tasks are c.args.hands.items os seated c.requires.fit c.requires.fresh in
    let ws = c.work_at_once.new.workers in
    let worked = subst (λ l. AllZip (Worked q fit answers did who) l ws) c.as_mut_slice.ensures.value c.work_at_once.ensures in
    let items = with_items_is c.seat.new.workers ws (c.work_at_once.auto.workers ∙ c.as_mut_slice.ensures.len) in
    let later : (view c.seat.new.pass).jobs ≡ jobs_from 0 tasks = ap (λ v. v.jobs) c.seat.ensures.view ∙ jobs in
    let ends = all_end q fit takes answers did who tasks os ws worked begin in
    let own = All-weaker (Ends q fit takes answers did who tasks) (TookItsOwn q (jobs_from 0 tasks)) (λ w e. e.1) ws ends in
    subst (λ l. All (TookItsOwn q (view c.seat.new.pass).jobs) l) (sym items) (subst (λ js. All (TookItsOwn q js) ws) (sym later) own)

pub end_run-requires-clause-ready : goal.end_run-requires-clause-ready
end_run-requires-clause-ready g c =
    let tasks = c.args.tasks.items in
    let jobs : (view c.in-Ok.prepared.pass).jobs ≡ jobs_from 0 tasks = ap (λ v. v.jobs) c.in-Ok.ensures.jobs ∙ ap (jobs_from 0) c.as_slice.ensures.value in
    let q = c.in-Ok.prepared.queue in
    let fit = g.M.Mender.fit c.args.m.now in
    let takes = g.M.Mender.takes c.args.m.now in
    let answers = g.M.Mender.answers c.args.m.now in
    let did = g.M.Mender.did in
    let who = g.M.Mender.who in
    let os = c.seat.new.workers.items in
    let seated = subst (λ js. AllZip (IsSeated q js) c.args.hands.items (reverse os)) jobs c.seat.ensures.seated in
    let are = are_jobs tasks takes c.requires.parts c.requires.takes in
    let begin : All (Begins q fit takes answers did who tasks) os = all_begin q fit takes answers did who tasks are c.args.hands.items os seated c.requires.fit c.requires.fresh in
    let ws = c.work_at_once.new.workers in
    let worked = subst (λ l. AllZip (Worked q fit answers did who) l ws) c.as_mut_slice.ensures.value c.work_at_once.ensures in
    let items = with_items_is c.seat.new.workers ws (c.work_at_once.auto.workers ∙ c.as_mut_slice.ensures.len) in
    let later : (view c.seat.new.pass).jobs ≡ jobs_from 0 tasks = ap (λ v. v.jobs) c.seat.ensures.view ∙ jobs in
    let ends = all_end q fit takes answers did who tasks os ws worked begin in
    let ready = All-weaker (Ends q fit takes answers did who tasks) (IsReady q fit takes did) (λ w e. e.0) ws ends in
    subst (λ l. All (IsReady q fit takes did) l) (sym items) ready

pub end_run-requires-clause-hands : goal.end_run-requires-clause-hands
end_run-requires-clause-hands g c =
    let many : c.seat.new.workers.len ≡ vec_len c.args.hands =
    omega (arith, c.seat.new.workers.ok.0, c.args.hands.ok.0, length-reverse c.seat.new.workers.items, AllZip-long (IsSeated _ _) c.args.hands.items (reverse c.seat.new.workers.items) c.seat.ensures.seated) in
    (c.seat.ensures.hands.0, omega (arith, many, c.seat.ensures.hands.1, c.args.hands.ok.1))

pub end_run-requires-clause-places : goal.end_run-requires-clause-places
end_run-requires-clause-places g c =
    let tasks = c.args.tasks.items in
    let later : (view c.seat.new.pass).jobs ≡ jobs_from 0 tasks = ap (λ v. v.jobs) c.seat.ensures.view ∙ (ap (λ v. v.jobs) c.in-Ok.ensures.jobs ∙ ap (jobs_from 0) c.as_slice.ensures.value) in
    let n : length tasks ≡ vec_len c.in-Ok.prepared.outcomes = sym (c.in-Ok.ensures.outcomes ∙ ap length c.as_slice.ensures.value) in
    subst (λ js. All (λ j. j.number < vec_len c.in-Ok.prepared.outcomes) js) (sym later) (subst (λ m. All (λ j. j.number < m) (jobs_from 0 tasks)) n (numbers_below tasks))

pub returns-clause-answers : goal.returns-clause-answers
returns-clause-answers g c =
    let tasks = c.args.tasks.items in
    let jobs : (view c.in-Ok.prepared.pass).jobs ≡ jobs_from 0 tasks = ap (λ v. v.jobs) c.in-Ok.ensures.jobs ∙ ap (jobs_from 0) c.as_slice.ensures.value in
    let q = c.in-Ok.prepared.queue in
    let fit = g.M.Mender.fit c.args.m.now in
    let takes = g.M.Mender.takes c.args.m.now in
    let answers = g.M.Mender.answers c.args.m.now in
    let did = g.M.Mender.did in
    let who = g.M.Mender.who in
    let os = c.seat.new.workers.items in
    let seated = subst (λ js. AllZip (IsSeated q js) c.args.hands.items (reverse os)) jobs c.seat.ensures.seated in
    let ws = c.work_at_once.new.workers in
    let worked = subst (λ l. AllZip (Worked q fit answers did who) l ws) c.as_mut_slice.ensures.value c.work_at_once.ensures in
    let items = with_items_is c.seat.new.workers ws (c.work_at_once.auto.workers ∙ c.as_mut_slice.ensures.len) in
    let later : (view c.seat.new.pass).jobs ≡ jobs_from 0 tasks = ap (λ v. v.jobs) c.seat.ensures.view ∙ jobs in
    let before = c.in-Ok.prepared.outcomes in
    let n : length before.items ≡ length tasks = omega (arith, before.ok.0, c.in-Ok.ensures.outcomes ∙ ap length c.as_slice.ensures.value) in
    let fin = subst (λ js. Finishes fit answers did who js (reverse ws) before.items c.end_run.result) later
    (subst (λ l. Finishes fit answers did who (view c.seat.new.pass).jobs (reverse l) before.items c.end_run.result) items c.end_run.ensures) in
    run_answers q fit takes answers did who tasks c.args.hands.items os ws before.items c.end_run.result seated worked fin n

pub returns-clause-fit : goal.returns-clause-fit
returns-clause-fit g c =
    let tasks = c.args.tasks.items in
    let jobs : (view c.in-Ok.prepared.pass).jobs ≡ jobs_from 0 tasks = ap (λ v. v.jobs) c.in-Ok.ensures.jobs ∙ ap (jobs_from 0) c.as_slice.ensures.value in
    let q = c.in-Ok.prepared.queue in
    let fit = g.M.Mender.fit c.args.m.now in
    let takes = g.M.Mender.takes c.args.m.now in
    let answers = g.M.Mender.answers c.args.m.now in
    let did = g.M.Mender.did in
    let who = g.M.Mender.who in
    let os = c.seat.new.workers.items in
    let seated = subst (λ js. AllZip (IsSeated q js) c.args.hands.items (reverse os)) jobs c.seat.ensures.seated in
    let ws = c.work_at_once.new.workers in
    let worked = subst (λ l. AllZip (Worked q fit answers did who) l ws) c.as_mut_slice.ensures.value c.work_at_once.ensures in
    let items = with_items_is c.seat.new.workers ws (c.work_at_once.auto.workers ∙ c.as_mut_slice.ensures.len) in
    let later : (view c.seat.new.pass).jobs ≡ jobs_from 0 tasks = ap (λ v. v.jobs) c.seat.ensures.view ∙ jobs in
    let before = c.in-Ok.prepared.outcomes in
    let n : length before.items ≡ length tasks = omega (arith, before.ok.0, c.in-Ok.ensures.outcomes ∙ ap length c.as_slice.ensures.value) in
    let fin = subst (λ js. Finishes fit answers did who js (reverse ws) before.items c.end_run.result) later
    (subst (λ l. Finishes fit answers did who (view c.seat.new.pass).jobs (reverse l) before.items c.end_run.result) items c.end_run.ensures) in
    run_fit q fit takes answers did who tasks c.args.hands.items os ws before.items c.end_run.result seated worked fin n

pub returns-clause-same : goal.returns-clause-same
returns-clause-same g c =
    let tasks = c.args.tasks.items in
    let jobs : (view c.in-Ok.prepared.pass).jobs ≡ jobs_from 0 tasks = ap (λ v. v.jobs) c.in-Ok.ensures.jobs ∙ ap (jobs_from 0) c.as_slice.ensures.value in
    let q = c.in-Ok.prepared.queue in
    let fit = g.M.Mender.fit c.args.m.now in
    let takes = g.M.Mender.takes c.args.m.now in
    let answers = g.M.Mender.answers c.args.m.now in
    let did = g.M.Mender.did in
    let who = g.M.Mender.who in
    let os = c.seat.new.workers.items in
    let seated = subst (λ js. AllZip (IsSeated q js) c.args.hands.items (reverse os)) jobs c.seat.ensures.seated in
    let ws = c.work_at_once.new.workers in
    let worked = subst (λ l. AllZip (Worked q fit answers did who) l ws) c.as_mut_slice.ensures.value c.work_at_once.ensures in
    let items = with_items_is c.seat.new.workers ws (c.work_at_once.auto.workers ∙ c.as_mut_slice.ensures.len) in
    let later : (view c.seat.new.pass).jobs ≡ jobs_from 0 tasks = ap (λ v. v.jobs) c.seat.ensures.view ∙ jobs in
    let before = c.in-Ok.prepared.outcomes in
    let n : length before.items ≡ length tasks = omega (arith, before.ok.0, c.in-Ok.ensures.outcomes ∙ ap length c.as_slice.ensures.value) in
    let fin = subst (λ js. Finishes fit answers did who js (reverse ws) before.items c.end_run.result) later
    (subst (λ l. Finishes fit answers did who (view c.seat.new.pass).jobs (reverse l) before.items c.end_run.result) items c.end_run.ensures) in
    run_same q fit takes answers did who tasks c.args.hands.items os ws before.items c.end_run.result seated worked fin n

pub returns-clause-did : goal.returns-clause-did
returns-clause-did g c =
    let tasks = c.args.tasks.items in
    let jobs : (view c.in-Ok.prepared.pass).jobs ≡ jobs_from 0 tasks = ap (λ v. v.jobs) c.in-Ok.ensures.jobs ∙ ap (jobs_from 0) c.as_slice.ensures.value in
    let q = c.in-Ok.prepared.queue in
    let fit = g.M.Mender.fit c.args.m.now in
    let takes = g.M.Mender.takes c.args.m.now in
    let answers = g.M.Mender.answers c.args.m.now in
    let did = g.M.Mender.did in
    let who = g.M.Mender.who in
    let os = c.seat.new.workers.items in
    let seated = subst (λ js. AllZip (IsSeated q js) c.args.hands.items (reverse os)) jobs c.seat.ensures.seated in
    let ws = c.work_at_once.new.workers in
    let worked = subst (λ l. AllZip (Worked q fit answers did who) l ws) c.as_mut_slice.ensures.value c.work_at_once.ensures in
    let items = with_items_is c.seat.new.workers ws (c.work_at_once.auto.workers ∙ c.as_mut_slice.ensures.len) in
    let later : (view c.seat.new.pass).jobs ≡ jobs_from 0 tasks = ap (λ v. v.jobs) c.seat.ensures.view ∙ jobs in
    let before = c.in-Ok.prepared.outcomes in
    let n : length before.items ≡ length tasks = omega (arith, before.ok.0, c.in-Ok.ensures.outcomes ∙ ap length c.as_slice.ensures.value) in
    let fin = subst (λ js. Finishes fit answers did who js (reverse ws) before.items c.end_run.result) later
    (subst (λ l. Finishes fit answers did who (view c.seat.new.pass).jobs (reverse l) before.items c.end_run.result) items c.end_run.ensures) in
    run_did q fit takes answers did who tasks c.args.hands.items os ws before.items c.end_run.result seated worked fin n
