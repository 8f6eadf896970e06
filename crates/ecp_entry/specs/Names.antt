-- A name of a file, as its bytes.
use Rattle.std.specs.Prelude.{◌≡◌, ℕ, List, length, take}
use Rattle.std.proofs.Common.{ap, ◌∙◌}
use Rattle.ecp_entry.specs.declared.name.Name.TheInside.{Inside}
use Rattle.ecp_entry.specs.Filled.{zero_filled}

-- the bytes of a name: as many as it says
abbrev pub named : Inside → List ℕ
named a = take a.len a.at

-- the fields of a name
abbrev pub made : ℕ → List ℕ → Inside
made len at = record { len = len; at = at }

-- the name with these bytes
abbrev pub padded : List ℕ → Inside
padded bytes = made (length bytes) (zero_filled (length bytes) bytes)

-- a name has as many bytes as it says, and zeros behind them
pub record IsPadded (a : Inside) : Type 0 where
  pub counted : length (named a) ≡ a.len
  pub zeros : zero_filled a.len (named a) ≡ a.at

-- the bytes of a name give it back
pub padded-named : (a : Inside) → IsPadded a → padded (named a) ≡ a
padded-named a h = ap (λ (n : ℕ). made n (zero_filled n (named a))) h.counted ∙ ap (made a.len) h.zeros
