-- Where a record's configuration stands: behind its head, one octet of which is its length.
use Prim.Native.Nat.{ℕ, ◌+◌, ◌*◌, ◌≤◌}
use mathlib.Core.Path.{◌≡◌, ap, ◌∙◌}
use mathlib.Core.List.{List}
use native.Mathlib.Omega.{arith}
use lib.Dec.{lit<}
use lib.ListN.{length, take, drop, get_or, length-take, length-drop}
use lib.Seq.{drop-drop, get_or-take, get_or-drop}
use Rattle.rules.specs.Saved.{record_room, head_room, config_room, config_in}
use Rattle.octets.specs.Patch.{part}
use Rattle.octets.proofs.Patches.{part_take}
use Rattle.saved.specs.Records.{config_size_at, config_at}

-- the length, by the octet of the area that tells it
pub size_octet : (i : ℕ) (l : List ℕ) → config_size_at i l ≡ get_or l (i * record_room + 7) 0
size_octet i l = get_or-take record_room (drop (i * record_room) l) 7 0 (lit< tt) ∙ get_or-drop (i * record_room) l 7 0

module _ (i : ℕ) (l : List ℕ) (inside : (i + 1) * record_room ≤ length l) (told : config_size_at i l ≤ config_room) where
  pub config_length : length (config_at i l) ≡ config_size_at i l
  unfolding config_in
  config_length = simp (length-take, length-drop) (omega (arith, told))

  pub config_there : config_at i l ≡ part (i * record_room + head_room) (config_size_at i l) l
  unfolding config_in part
  config_there =
      let k = config_size_at i l in
      part_take head_room k record_room (drop (i * record_room) l) (omega (arith, told))
      ∙ ap (take k) (drop-drop head_room (i * record_room) l)

  pub size_short : get_or l (i * record_room + 7) 0 ≤ config_room
  size_short = omega (arith, size_octet i l, told)

  pub config_part : config_at i l ≡ part (i * record_room + head_room) (get_or l (i * record_room + 7) 0) l
  config_part = config_there ∙ ap (λ (k : ℕ). part (i * record_room + head_room) k l) (size_octet i l)
