-- What an assembly answers to a full message, and what it is then.
use Rattle.std.specs.Prelude.{ℕ, ◌+◌, ◌==◌, true, not, if◌then◌else◌, List, ◌++◌, length, take, drop, slice_set}
use Rattle.ecp_slice.specs.Messages.{Message}
use Rattle.ecp_requestor.specs.declared.accepted.Accepted.{Accepted}
use Rattle.ecp_requestor.specs.declared.accepted.Accepted.TheVariants.{Taken, Stale, Foreign, Repeat}
use Rattle.ecp_requestor.specs.Assemblies.{AssemblyState, is_of, is_there}

-- a message of another repair, stripe, row, block length or slice size is foreign; else one of another attempt is stale;
-- else one whose slice is there is a repeat; every other one is taken
abbrev pub answer_to : AssemblyState → Message → Accepted
answer_to a m =
    if not (is_of a m) then Foreign a.repair
    else (if not (m.attempt == a.attempt) then Stale a.attempt
    else (if is_there a m.slice then Repeat m.slice
    else Taken))

-- the bytes with these written over them from an offset on
abbrev pub written : List ℕ → ℕ → List ℕ → List ℕ
written bytes off new = take off bytes ++ new ++ drop (off + length new) bytes

-- the assembly with the slice of a message: its payload is written into its place, and it is there
abbrev pub with_slice : AssemblyState → Message → AssemblyState
with_slice a m = record a { there = slice_set a.there m.slice true; bytes = written a.bytes m.off m.payload }

-- the assembly after an answer: only a message that is taken changes it
abbrev pub after : Accepted → AssemblyState → Message → AssemblyState
after Taken a m = with_slice a m
after (Stale _) a m = a
after (Foreign _) a m = a
after (Repeat _) a m = a
