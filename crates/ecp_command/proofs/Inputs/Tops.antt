-- The keys at the top of a head, as its table holds them.
use Rattle.std.proofs.Common.{◌≡◌, Bool, ◌&&◌, List, [], ◌∷◌, string_bytes, refl, ap}
use Rattle.std.specs.List.{list_all}
use Rattle.std.specs.Map.{keys_of}
use Rattle.toml.proofs.Views.{Entry}
use Rattle.toml.specs.View.{members_view}
use Rattle.ecp_command.specs.Input.Settings.{is_setting, has_settings_only}

pub only_keys : (es : List Entry) → list_all (λ k. is_setting (string_bytes k)) (keys_of es) ≡ has_settings_only (members_view es)
only_keys [] = refl
only_keys (e ∷ es) = ap (λ (b : Bool). is_setting (string_bytes e.0) && b) (only_keys es)
