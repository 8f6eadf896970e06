use Rattle.std.specs.Str.{IsAscii}
use Rattle.std.proofs.lemmas.Str.{IsUtf8-from_ascii}
use Rattle.ecp_entry.proofs.text.Text.as_str.Goals as goal

pub unreachable-requires : goal.unreachable-requires
unreachable-requires c =
    let ascii : IsAscii c.bytes.result.now = rw c.bytes.ensures c.requires in
    c.in-Err.ensures.cases.0 (IsUtf8-from_ascii c.bytes.result.now ascii)
