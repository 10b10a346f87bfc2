-- One record among the saved ones: the octets of its configuration, and their number.
use Rattle.std.specs.Prelude.{ℕ, List, get_or}
use Rattle.rules.specs.Saved.{config_length_place, record_at, config_in}

abbrev pub config_size_at : ℕ → List ℕ → ℕ
config_size_at i l = get_or (record_at i l) config_length_place 0

abbrev pub config_at : ℕ → List ℕ → List ℕ
config_at i l = config_in (record_at i l)
