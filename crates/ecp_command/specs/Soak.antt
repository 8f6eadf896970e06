-- The large input that a number makes.
use Rattle.std.specs.Prelude.{ℕ, ◌+◌, ◌*◌, ◌%◌, ◌==◌, false, if◌then◌else◌, List, [], ◌∷◌, ◌++◌, map, codes, decimal}
use Rattle.std.specs.List.{range_with_len}
use Rattle.ecp_command.specs.declared.input.call.Call.{Call}
use Rattle.ecp_command.specs.declared.input.call.Call.TheVariants.{Put, Cat, Lose, Join, Rebuild}
use Rattle.ecp_command.specs.declared.input.head.Head.{Head}
use Rattle.ecp_command.specs.declared.input.planned.Planned.{Planned}
use Rattle.ecp_command.specs.Generated.{generated}
use Rattle.ecp_command.specs.Input.Accepted.{Content}
use Rattle.ecp_command.specs.Input.Calls.{SessionCalls, planned}

-- its settings
abbrev pub soak_head : Head
soak_head = record { k = 4; n = 6; nodes = 8; block = 4096; slice = 512; window = 4; workers = 2; cyclic = false }

-- the node that is lost, comes back and is rebuilt
abbrev pub soak_node : ℕ → ℕ
soak_node seed = seed % 8

-- the name and the bytes of file m
abbrev pub soak_name : ℕ → List ℕ
soak_name m = codes "f" ++ decimal m

abbrev pub soak_bytes : ℕ → ℕ → List ℕ
soak_bytes seed m = generated (seed + m) (65536 + 1000 * m)

-- the files of a session, four for each of four
abbrev pub soak_files : ℕ → List ℕ
soak_files session = range_with_len (4 * session) 4

-- a session puts its files, and reads those of a session whole, in a phase
abbrev pub soak_puts : ℕ → ℕ → List Planned
soak_puts seed session = map (λ m. planned 0 (Put (soak_name m) (soak_bytes seed m))) (soak_files session)

abbrev pub soak_cats : ℕ → ℕ → List Planned
soak_cats phase session = map (λ m. planned phase (Cat (soak_name m))) (soak_files session)

-- a call that one session alone makes
abbrev pub by_one : ℕ → ℕ → Planned → List Planned → List Planned
by_one one session call others = if session == one then call ∷ [] else others

-- The calls of a session. Each puts its files. Then session 0 loses a node, each reads its files and those of the next one, session 0 has the
-- node come up, and session 1 rebuilds it while the others read their files. At last each reads its files
abbrev pub soak_calls : ℕ → ℕ → List Planned
soak_calls seed session =
    soak_puts seed session
    ++ (by_one 0 session (planned 1 (Lose (soak_node seed))) []
    ++ (soak_cats 2 session
    ++ (soak_cats 2 ((session + 1) % 4)
    ++ (by_one 0 session (planned 3 (Join (soak_node seed))) []
    ++ (by_one 1 session (planned 4 (Rebuild (soak_node seed) (soak_node seed))) (soak_cats 4 session)
    ++ soak_cats 5 session)))))

abbrev pub soak_session : ℕ → ℕ → SessionCalls
soak_session seed session = record { number = session; calls = soak_calls seed session }

-- what it asks for
abbrev pub soak_content : ℕ → Content
soak_content seed = record { head = soak_head; sessions = map (soak_session seed) (range_with_len 0 4); phases = 6 }
