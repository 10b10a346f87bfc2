-- What signal 02 shows of a right list is its front, up to the end of the codec: behind it may only stand delay reporting, which
-- is not shown. By induction on the items in their order.
use Prim.Native.Nat.{ℕ, ◌+◌, ◌≤◌, zero-le}
use native.Mathlib.Nat.{le_trans}
use native.Mathlib.Omega.{arith}
use mathlib.Core.Path.{◌≡◌, refl, sym, ap, ◌∙◌}
use mathlib.Core.List.{List, [], ◌∷◌, ◌++◌}
use mathlib.Core.Bool.{Bool, true, false}
use lib.ListN.{length, take, drop, length-append}
use lib.Seq.{take-append-add}
use lib.Dec.{leb, eqb}
use Rattle.rules.specs.Octets.{member}
use Rattle.std.specs.Prelude.{if◌then◌else◌}
use Rattle.rules.specs.Elements.{Item, whole, short, items, element}
use Rattle.rules.specs.Book.{list_right, written, up_to_codec}
use Rattle.rules.proofs.Tests.{Told?, passed, failed, told, clash}
use Rattle.rules.proofs.Lists.{written_items, written_length}
use Rattle.elements_reader.specs.Orders.{followers, in_order, offer_test, TransportFirst, codec_end}
use Rattle.elements_reader.proofs.InOrder.{first_in_order, in_order_whole, steps, list_in_order}

end_written : (is : List Item) → codec_end is ≤ length (written is)
unfolding codec_end written
end_written [] = zero-le
end_written (short c ∷ is) = zero-le
end_written (whole c v ∷ is) = go (eqb c 7) (end_written is)
  where
    go : (b : Bool) → codec_end is ≤ length (written is)
        → length (element c v) + (if b then 0 else codec_end is) ≤ length (element c v ++ written is)
    go true h = simp length-append (omega arith)
    go false h = simp length-append (omega arith)

pub end_inside : (l : List ℕ) → codec_end (items l) ≤ length l
end_inside l = le_trans (end_written (items l)) (written_length l)

-- it may be looked for behind the media transport
pub end_behind : (l : List ℕ) → TransportFirst l → codec_end (items l) ≡ 2 + codec_end (items (drop 2 l))
unfolding codec_end element
end_behind l first = rw first

module _ (again : Bool) (test : ℕ → List ℕ → Bool) where
  -- behind the codec nothing is shown
  none_shown : (is : List Item) (last : ℕ) → leb 7 last ≡ true → in_order again test last is ≡ true
      → written (up_to_codec is) ≡ []
  unfolding in_order written up_to_codec
  none_shown [] last high e = refl
  none_shown (short c ∷ is) last high e = clash refl (sym e)
  none_shown (whole c v ∷ is) last high e =
      let (m, p, rest) = first_in_order again test last c v is e in
      let (above, next) = step last c m high in
      rw above (none_shown is c next rest)
    where
      step : (last c : ℕ) → member c (followers again last) ≡ true → leb 7 last ≡ true → (leb c 7 ≡ false) × (leb 7 c ≡ true)
      step =
          steps again (λ last c. leb 7 last ≡ true → (leb c 7 ≡ false) × (leb 7 c ≡ true)) (λ h. clash h refl) (λ h. clash h refl)
          (λ h. clash h refl) (λ h. clash h refl) (λ h. clash h refl) (λ h. clash h refl) (λ a h. clash h refl)
          (λ h. clash h refl) (λ h. (refl, refl))

  -- up to it everything is
  front_written : (is : List Item) (last : ℕ) → leb 7 last ≡ false → in_order again test last is ≡ true
      → written (up_to_codec is) ≡ take (codec_end is) (written is)
  unfolding in_order written up_to_codec codec_end
  front_written [] last low e = clash e low
  front_written (short c ∷ is) last low e = clash refl (sym e)
  front_written (whole c v ∷ is) last low e =
      let (m, p, rest) = first_in_order again test last c v is e in
      let (shown, next) = step last c m low in
      rw shown
      (ap (λ (r : List ℕ). element c v ++ r) (go (told (eqb c 7)) next rest (front_written is c))
      ∙ sym (take-append-add (element c v) (written is) (if eqb c 7 then 0 else codec_end is)))
    where
      step : (last c : ℕ) → member c (followers again last) ≡ true → leb 7 last ≡ false
          → (leb c 7 ≡ true) × (leb 7 c ≡ eqb c 7)
      step =
          steps again (λ last c. leb 7 last ≡ false → (leb c 7 ≡ true) × (leb 7 c ≡ eqb c 7)) (λ h. (refl, refl))
          (λ h. (refl, refl)) (λ h. (refl, refl)) (λ h. (refl, refl)) (λ h. (refl, refl)) (λ h. (refl, refl))
          (λ a h. (refl, refl)) (λ h. (refl, refl)) (λ h. clash refl h)

      go : Told? (eqb c 7) → leb 7 c ≡ eqb c 7 → in_order again test c is ≡ true
          → (leb 7 c ≡ false → in_order again test c is ≡ true → written (up_to_codec is) ≡ take (codec_end is) (written is))
          → written (up_to_codec is) ≡ take (if eqb c 7 then 0 else codec_end is) (written is)
      go (passed t) next rest behind = rw t (none_shown is c (next ∙ t) rest)
      go (failed t) next rest behind = rw t (behind (next ∙ t) rest)

pub front_shown : (media : ℕ) (l : List ℕ) → list_right media (items l) ≡ true
    → written (up_to_codec (items l)) ≡ take (codec_end (items l)) l
front_shown media l right =
    let e = sym (list_in_order media (items l)) ∙ right in
    front_written true (offer_test media) (items l) 0 refl e
    ∙ ap (take (codec_end (items l))) (written_items l (in_order_whole true (offer_test media) (items l) 0 e))
