-- An entry whose bytes lie elsewhere.
use Rattle.ecp_entry.specs.declared.entry.Entry.{Entry}
use Rattle.ecp_entry.specs.Entries.{deed_name}
use Rattle.ecp_sequencer.specs.declared.entry_ref.EntryRef.{EntryRef}

-- the entry: its name is its deed's
abbrev pub entry_of : EntryRef → Entry
entry_of r = record { line = r.line; deed = r.deed; name = deed_name r.deed; bytes = r.bytes.now }
