-- `put_pick` meets its contract: the length octet and the value are written behind the category, and where the value is a codec's
-- the low nibble of its first octet is cleared in place, which is the element as it is kept.
use Prim.Native.Nat.{ℕ, zero, suc, ◌+◌, ◌-◌, ◌*◌, ◌/◌, ◌≤◌, ◌<◌}
use mathlib.Core.Path.{◌≡◌, refl, sym, ap, ◌∙◌}
use mathlib.Core.List.{List, ◌∷◌}
use native.Mathlib.Numerals.{add-one}
use native.Mathlib.Omega.{arith}
use borrow.Author.Tests.{eq-eqb, ne_eqb}
use lib.ListN.{length, take, drop, get_or, set, length-set, length-drop}
use lib.Seq.{drop-cons, length-take-le}
use Rattle.rules.specs.Elements.{element, clear_low, kept}
use Rattle.rules.proofs.Storable.{kept_length}
use Rattle.octets.specs.Patch.{patch, part}
use Rattle.octets.proofs.Patches.{patch_behind, patch_third}
use Rattle.elements_stored.specs.Stores.{size_at, value_at, marked_pick, PickFits}
use Rattle.elements_stored.proofs.Writes.{Wrote, wrote_none}
use Rattle.elements_stored.proofs.config.put_pick.Goals as goal
use Rattle.elements_stored.proofs.config.put_pick.Goals.{then-category-eq7+then-size-ne0, else-category-eq7}
use Rattle.elements_stored.proofs.config.put_pick.Goals.{else-category-eq7-via-then-category-eq7+else-size-ne0}
use Rattle.elements_stored.proofs.config.put_pick.Goals.{else-category-eq7-via-else-category-eq7}

other_kept : (c : ℕ) (v : List ℕ) → (c ≡ 7 → ⊥) → kept c v ≡ v
unfolding kept
other_kept c v h = rw (ne_eqb c 7 h)

codec_kept : (c : ℕ) (v : List ℕ) → c ≡ 7 → kept c v ≡ clear_low v
unfolding kept
codec_kept c v h = rw (eq-eqb c 7 h)

none_kept : (c n : ℕ) (v : List ℕ) → c ≡ 7 → n ≡ 0 → kept c (take n v) ≡ take n v
unfolding clear_low
none_kept c n v h e = codec_kept c (take n v) h ∙ rw e

-- the first octet of a value that has one
value_cons : (l : List ℕ) (place n : ℕ) → (n ≡ 0 → ⊥) → place < length l
    → take n (drop place l) ≡ get_or l place 0 ∷ take (n - 1) (drop (suc place) l)
value_cons l place zero h k = absurd (h refl)
value_cons l place (suc n) h k =
    let e : suc n - 1 ≡ n = omega arith in
    rw (e, drop-cons l place 0 k)

-- a value is marked, and fits
module _ (l : List ℕ) (place : ℕ) (there : place ≡ 0 → ⊥) (fits : place + size_at l place ≤ length l) where
  value_length : length (value_at l place) ≡ size_at l place
  value_length = length-take-le (size_at l place) (drop place l) (simp length-drop (omega arith))

  -- with the length octet before it
  with_length : part (place - 1) (size_at l place + 1) l ≡ size_at l place ∷ value_at l place
  unfolding part
  with_length =
      let e : suc (place - 1) ≡ place = omega arith in
      rw (add-one, drop-cons l (place - 1) 0 (omega arith), e)

  as_kept : (c : ℕ) → marked_pick c l place ≡ c ∷ size_at l place ∷ kept c (value_at l place)
  unfolding marked_pick element
  as_kept c =
      rw (ne_eqb place 0 there)
      (ap (λ (n : ℕ). c ∷ n ∷ kept c (value_at l place)) (kept_length c (value_at l place) ∙ value_length))

  pick_length : (c : ℕ) → length (marked_pick c l place) ≡ 2 + size_at l place
  pick_length c = ap length (as_kept c) ∙ omega (arith, kept_length c (value_at l place), value_length)

-- what the contract asks of a value that is marked
record Rooms (l : List ℕ) (place to : ℕ) (a : List ℕ) : Type 0 where
  there : place ≡ 0 → ⊥
  fits : place + size_at l place ≤ length l
  room : to + 2 + size_at l place ≤ length a

rooms : (c : ℕ) (l : List ℕ) (place to : ℕ) (a : List ℕ) → (place ≡ 0 → ⊥)
    → PickFits l place × (to + length (marked_pick c l place) ≤ length a) → Rooms l place to a
rooms c l place to a there asked =
    let fits : place + size_at l place ≤ length l = asked.0 (omega arith) in
    record { there = there; fits = fits; room = omega (arith, asked.1, pick_length l place there fits c) }

none : (c : ℕ) (l : List ℕ) (place to : ℕ) (a : List ℕ) → place ≡ 0 → Wrote to (marked_pick c l place) a a to
unfolding marked_pick
none c l place to a e = wrote_none to (marked_pick c l place) a (rw (eq-eqb place 0 e))

module _ (c : ℕ) (l : List ℕ) (place to : ℕ) (a : List ℕ) (h : Rooms l place to a) where
  -- the length octet and the value, behind the category
  part_fits : (p : List ℕ) → p ≡ part (place - 1) (size_at l place + 1) l → to + 1 + length p ≤ length (set a to c)
  part_fits p e =
      let n = value_length l place h.there h.fits in
      simp length-set (omega (arith, ap length (e ∙ with_length l place h.there h.fits), h.room))

  first : (p : List ℕ) {b : List ℕ} → p ≡ part (place - 1) (size_at l place + 1) l → b ≡ patch (to + 1) p (set a to c)
      → b ≡ patch to (c ∷ size_at l place ∷ value_at l place) a
  first p e f =
      let n = value_length l place h.there h.fits in
      f ∙ ap (λ (s : List ℕ). patch (to + 1) s (set a to c)) (e ∙ with_length l place h.there h.fits)
      ∙ patch_behind to c (size_at l place ∷ value_at l place) a (omega (arith, h.room))

  end : to + 2 + size_at l place ≡ to + length (marked_pick c l place)
  end = omega (arith, pick_length l place h.there h.fits c)

  -- that is all where the value is kept as it is
  plain : {b : List ℕ} → kept c (value_at l place) ≡ value_at l place → b ≡ patch to (c ∷ size_at l place ∷ value_at l place) a
      → Wrote to (marked_pick c l place) a b (to + 2 + size_at l place)
  plain same e = (
    e ∙ ap (λ (v : List ℕ). patch to (c ∷ size_at l place ∷ v) a) (sym same)
        ∙ ap (λ (s : List ℕ). patch to s a) (sym (as_kept l place h.there h.fits c)),
    end,
  )

  -- a codec's first octet is cleared in place
  cleared : {b : List ℕ} → c ≡ 7 → (size_at l place ≡ 0 → ⊥) → b ≡ patch to (c ∷ size_at l place ∷ value_at l place) a
      → Wrote to (marked_pick c l place) a (set b (to + 2) (get_or l place 0 / 16 * 16)) (to + 2 + size_at l place)
  unfolding clear_low
  cleared codec some e =
      let n = size_at l place in
      let m = get_or l place 0 in
      let v = take (n - 1) (drop (suc place) l) in
      let s : value_at l place ≡ m ∷ v = value_cons l place n some (omega (arith, h.fits)) in (
        ap (λ (x : List ℕ). set x (to + 2) (m / 16 * 16)) (e ∙ ap (λ (w : List ℕ). patch to (c ∷ n ∷ w) a) s)
            ∙ patch_third to c n m (m / 16 * 16) v a (omega (arith, h.room))
            ∙ ap (λ (w : List ℕ). patch to (c ∷ n ∷ w) a) (sym (codec_kept c (value_at l place) codec ∙ ap clear_low s))
            ∙ ap (λ (x : List ℕ). patch to x a) (sym (as_kept l place h.there h.fits c)),
        end,
      )

pub returns-then-place-eq0 : goal.returns-then-place-eq0
returns-then-place-eq0 c =
    let both = none c.args.category c.args.list.now c.args.place c.args.to c.args.area.now c.if-place-eq0.true in
    record { area = both.0; end = both.1 }

pub bounds-area-to : goal.bounds-area-to
bounds-area-to c =
    let h = rooms c.args.category c.args.list.now c.args.place c.args.to c.args.area.now c.if-place-eq0.false c.requires in
    omega arith

pub put-requires : goal.put-requires
put-requires c =
    let h = rooms c.args.category c.args.list.now c.args.place c.args.to c.args.area.now c.if-place-eq0.false c.requires in
    part_fits c.args.category c.args.list.now c.args.place c.args.to c.args.area.now h
    c.part.result.now c.part.ensures

pub bounds-area-to-then-size-ne0 : goal.bounds-area-to-then-size-ne0
bounds-area-to-then-size-ne0 c =
    let h = rooms c.args.category c.args.list.now c.args.place c.args.to c.args.area.now c.if-place-eq0.false c.requires in
    omega (arith, c.put.auto.dst, length-set {A = ℕ}, c.if-size-ne0.true)

pub returns : goal.returns
returns c =
    let h = rooms c.args.category c.args.list.now c.args.place c.args.to c.args.area.now c.if-place-eq0.false c.requires in
    let e = first c.args.category c.args.list.now c.args.place c.args.to c.args.area.now h c.part.result.now c.part.ensures
    c.put.ensures in
    let both : Wrote c.args.to (marked_pick c.args.category c.args.list.now c.args.place) c.args.area.now c.if-category-eq7.area
    (c.args.to + 2 + size_at c.args.list.now c.args.place) = elim c.if-category-eq7.branch [
      | then-category-eq7+then-size-ne0 w ↦ rw w.area-is
          (cleared c.args.category c.args.list.now c.args.place c.args.to c.args.area.now h
          w.if-category-eq7.true w.if-size-ne0.true e)
      | else-category-eq7 w ↦ rw w.area-is
          (plain c.args.category c.args.list.now c.args.place c.args.to c.args.area.now h
          (elim w.else-category-eq7.branch [
            | else-category-eq7-via-then-category-eq7+else-size-ne0 w' ↦
                none_kept c.args.category _ (drop c.args.place c.args.list.now) w'.if-category-eq7.true w'.if-size-ne0.false
            | else-category-eq7-via-else-category-eq7 w' ↦ other_kept c.args.category _ w'.if-category-eq7.false
          ]) e)
    ] in
    record { area = both.0; end = both.1 }
