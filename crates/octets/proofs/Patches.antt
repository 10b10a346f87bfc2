-- The laws of patches and parts. An area with room is what stands before the patch, what it covers and what stands behind; over
-- such a split each law is one of `++`.
use Prim.Native.Nat.{ℕ, zero, suc, ◌+◌, ◌-◌, ◌≤◌}
use mathlib.Core.Path.{◌≡◌, refl, sym, ap, ap₂, ◌∙◌, subst}
use mathlib.Core.List.{List, [], ◌∷◌, ◌++◌, append_assoc}
use native.Mathlib.Nat.{zero-add, add-zero}
use native.Mathlib.Numerals.{add-one}
use native.Mathlib.Omega.{arith}
use lib.ListN.{length, take, drop, set, length-append, length-take, length-drop, take-append-drop}
use lib.Seq.{take_at, drop_at, length-take-le, drop-drop, take-take, take-append-le, drop-append-le, take-append-add}
use lib.Seq.{drop-append-add, take-append_seam, take-nil, take-add, set_split, set_at, sets, sets-eq}
use Rattle.rules.specs.Octets.{front}
use Rattle.octets.specs.Patch.{patch, part}

-- a part as the code takes it, from a start up to an end
pub part_span : (from size : ℕ) (l : List ℕ) → take (from + size - from) (drop from l) ≡ part from size l
unfolding part
part_span from size l =
    let e : from + size - from ≡ size = omega arith in
    ap (λ (n : ℕ). take n (drop from l)) e

-- a patch over an area that is split where the patch begins and ends
pub patch_split : (a m z s : List ℕ) (at : ℕ) → length a ≡ at → length m ≡ length s → patch at s (a ++ (m ++ z)) ≡ a ++ (s ++ z)
unfolding patch
patch_split a m z s at e f =
    ap₂ (λ (x y : List ℕ). x ++ (s ++ y)) (take_at a (m ++ z) at e)
    (ap (drop (at + length s)) (sym (append_assoc a m z))
    ∙ drop_at (a ++ m) z (at + length s) (simp length-append (omega arith)))

-- what stands behind a place, split after n more
behind_split : (d : List ℕ) (at n : ℕ) → drop at d ≡ take n (drop at d) ++ drop (at + n) d
behind_split d at n =
    sym (take-append-drop n (drop at d)) ∙ ap (λ (x : List ℕ). take n (drop at d) ++ x) (drop-drop n at d)

-- lengths stay
pub length_patch : (at : ℕ) (s d : List ℕ) → at + length s ≤ length d → length (patch at s d) ≡ length d
unfolding patch
length_patch at s d h = simp (length-append, length-take, length-drop) (omega arith)

pub part_length : (from size : ℕ) (d : List ℕ) → from + size ≤ length d → length (part from size d) ≡ size
unfolding part
part_length from size d h = length-take-le size (drop from d) (simp length-drop (omega arith))

-- a patched part reads back
pub part_patch : (at : ℕ) (s d : List ℕ) → at + length s ≤ length d → part at (length s) (patch at s d) ≡ s
unfolding patch part
part_patch at s d h =
    ap (take (length s)) (drop_at (take at d) (s ++ drop (at + length s) d) at (length-take-le at d (omega arith)))
    ∙ take_at s (drop (at + length s) d) (length s) refl

-- a part before or behind the patch is untouched
pub part_take : (from size n : ℕ) (d : List ℕ) → from + size ≤ n → part from size (take n d) ≡ part from size d
unfolding part
part_take zero size n d h = take-take size n d (omega arith)
part_take (suc from) size n [] h = rw (take-nil {A = ℕ} n)
part_take (suc from) size zero (x ∷ d) h = absurd (omega arith)
part_take (suc from) size (suc n) (x ∷ d) h = part_take from size n d (omega arith)

pub part_before : (from size at : ℕ) (s d : List ℕ) → from + size ≤ at → at ≤ length d → part from size (patch at s d)
    ≡ part from size d
unfolding patch part
part_before from size at s d h k =
    let room : length (take at d) ≡ at = length-take-le at d k in
    ap (take size) (drop-append-le from (take at d) (s ++ drop (at + length s) d) (omega arith))
    ∙ take-append-le size (drop from (take at d)) (s ++ drop (at + length s) d) (simp length-drop (omega arith))
    ∙ part_take from size at d h

pub drop_patch : (n at : ℕ) (s d : List ℕ) → at + length s ≤ n → at + length s ≤ length d → drop n (patch at s d) ≡ drop n d
unfolding patch
drop_patch n at s d h k =
    let head = take at d ++ s in
    let more = n - (at + length s) in
    let e : length head + more ≡ n = simp (length-append, length-take) (omega arith) in
    let f : at + length s + more ≡ n = omega arith in
    ap (drop n) (sym (append_assoc (take at d) s (drop (at + length s) d)))
    ∙ ap (λ (x : ℕ). drop x (head ++ drop (at + length s) d)) (sym e)
    ∙ drop-append-add head (drop (at + length s) d) more
    ∙ drop-drop more (at + length s) d
    ∙ ap (λ (x : ℕ). drop x d) f

pub part_behind : (from size at : ℕ) (s d : List ℕ) → at + length s ≤ from → at + length s ≤ length d
    → part from size (patch at s d) ≡ part from size d
unfolding part
part_behind from size at s d h k = ap (take size) (drop_patch from at s d h k)

-- written at the front
pub front_patch : (s d : List ℕ) → front s d ≡ patch 0 s d
unfolding front patch
front_patch s d = rw zero-add

-- and on where that ends
pub front_more : (s q d : List ℕ) → patch (length s) q (front s d) ≡ front (s ++ q) d
unfolding patch front
front_more s q d =
    ap₂ (λ (x y : List ℕ). x ++ (q ++ y)) (take-append_seam s (drop (length s) d))
    (drop-append-add s (drop (length s) d) (length q) ∙ drop-drop (length q) (length s) d
    ∙ ap (λ (n : ℕ). drop n d) (sym (length-append s q)))
    ∙ sym (append_assoc s q (drop (length (s ++ q)) d))

-- disjoint patches commute
five : (a m b n z : List ℕ) → a ++ (m ++ (b ++ (n ++ z))) ≡ (a ++ (m ++ b)) ++ (n ++ z)
five a m b n z = simp append_assoc

comm_split : (a m b n z s t : List ℕ) (i j : ℕ) → length a ≡ i → length m ≡ length s → length n ≡ length t
    → length a + (length m + length b) ≡ j
    → patch j t (patch i s (a ++ (m ++ (b ++ (n ++ z))))) ≡ patch i s (patch j t (a ++ (m ++ (b ++ (n ++ z)))))
comm_split a m b n z s t i j p q r e =
    ap (patch j t) (patch_split a m (b ++ (n ++ z)) s i p q ∙ five a s b n z)
    ∙ patch_split (a ++ (s ++ b)) n z t j (simp length-append (omega arith)) r
    ∙ sym (five a s b t z)
    ∙ sym (ap (patch i s)
    (ap (patch j t) (five a m b n z) ∙ patch_split (a ++ (m ++ b)) n z t j (simp length-append (omega arith)) r
    ∙ sym (five a m b t z))
    ∙ patch_split a m (b ++ (t ++ z)) s i p q)

pub patch_comm : (i : ℕ) (s : List ℕ) (j : ℕ) (t d : List ℕ) → i + length s ≤ j → j + length t ≤ length d
    → patch j t (patch i s d) ≡ patch i s (patch j t d)
patch_comm i s j t d h k =
    let a = take i d in
    let m = take (length s) (drop i d) in
    let gap = j - (i + length s) in
    let b = take gap (drop (i + length s) d) in
    let n = take (length t) (drop j d) in
    let z = drop (j + length t) d in
    let g : i + length s + gap ≡ j = omega arith in
    let whole : d ≡ a ++ (m ++ (b ++ (n ++ z))) =
    sym (take-append-drop i d)
    ∙ ap (λ (x : List ℕ). a ++ x)
    (behind_split d i (length s)
    ∙ ap (λ (x : List ℕ). m ++ x)
    (behind_split d (i + length s) gap
    ∙ ap (λ (x : List ℕ). b ++ x) (ap (λ (x : ℕ). drop x d) g ∙ behind_split d j (length t)))) in
    let la : length a ≡ i = simp length-take (omega arith) in
    let lm : length m ≡ length s = simp (length-take, length-drop) (omega arith) in
    let lb : length b ≡ gap = simp (length-take, length-drop) (omega arith) in
    let ln : length n ≡ length t = simp (length-take, length-drop) (omega arith) in
    subst (λ (x : List ℕ). patch j t (patch i s x) ≡ patch i s (patch j t x)) (sym whole)
    (comm_split a m b n z s t i j la lm ln (omega arith))

-- what stands behind a write that ends within the first m octets
rest_joined : (k m : ℕ) (x : List ℕ) → k ≤ m → drop k (take m x) ++ drop m x ≡ drop k x
rest_joined zero m x h = take-append-drop m x
rest_joined (suc k) zero x h = absurd (omega arith)
rest_joined (suc k) (suc m) [] h = refl
rest_joined (suc k) (suc m) (o ∷ x) h = rest_joined k m x (omega arith)

-- a part that was lent and written at its front, back in its place
pub lent_front : (at k : ℕ) (s d : List ℕ) → length s ≤ k
    → take at d ++ (front s (take k (drop at d)) ++ drop k (drop at d)) ≡ patch at s d
unfolding front patch
lent_front at k s d h =
    ap (λ (x : List ℕ). take at d ++ x)
    (append_assoc s (drop (length s) (take k (drop at d))) (drop k (drop at d))
    ∙ ap (λ (x : List ℕ). s ++ x) (rest_joined (length s) k (drop at d) h ∙ drop-drop (length s) at d))

-- ---- Patches one after the other

-- nothing written
pub patch_none : (at : ℕ) (d : List ℕ) → d ≡ patch at [] d
unfolding patch
patch_none at d = rw add-zero (sym (take-append-drop at d))

-- a second write that begins where the first ends
pub patch_append : (at : ℕ) (s t d : List ℕ) → at + length s + length t ≤ length d
    → patch (at + length s) t (patch at s d) ≡ patch at (s ++ t) d
unfolding patch
patch_append at s t d h =
    let a = take at d in
    let z = drop (at + length s) d in
    let m = take (length t) z in
    let e : at + length s + length t ≡ at + length (s ++ t) = simp length-append (omega arith) in
    let split : a ++ (s ++ z) ≡ (a ++ s) ++ (m ++ drop (length t) z) =
    ap (λ (x : List ℕ). a ++ (s ++ x)) (sym (take-append-drop (length t) z))
    ∙ sym (append_assoc a s (m ++ drop (length t) z)) in
    ap (patch (at + length s) t) split
    ∙ patch_split (a ++ s) m (drop (length t) z) t (at + length s) (simp (length-append, length-take) (omega arith))
    (simp (length-take, length-drop) (omega arith))
    ∙ append_assoc a s (t ++ drop (length t) z)
    ∙ ap (λ (x : List ℕ). a ++ (s ++ (t ++ x))) (drop-drop (length t) (at + length s) d ∙ ap (λ (n : ℕ). drop n d) e)
    ∙ ap (λ (x : List ℕ). a ++ x) (sym (append_assoc s t (drop (at + length (s ++ t)) d)))

-- a second write over all of the first
patch_over : (at : ℕ) (s t d : List ℕ) → length s ≤ length t → at + length t ≤ length d
    → patch at t (patch at s d) ≡ patch at t d
unfolding patch
patch_over at s t d h k =
    ap₂ (λ (x y : List ℕ). x ++ (t ++ y))
    (take_at (take at d) (s ++ drop (at + length s) d) at (length-take-le at d (omega arith)))
    (drop_patch (at + length t) at s d (omega arith) (omega arith))

-- the first i octets are written, then n from the k-th on, of which some may be written already: that is the first k + n
pub patch_further : (at i k n : ℕ) (s d : List ℕ) → k ≤ i → i ≤ k + n → k + n ≤ length s → at + (k + n) ≤ length d
    → patch (at + k) (part k n s) (patch at (take i s) d) ≡ patch at (take (k + n) s) d
unfolding part
patch_further at i k n s d p q r h =
    let a = take k s in
    let b = take (i - k) (drop k s) in
    let c = take n (drop k s) in
    let la : length a ≡ k = length-take-le k s (omega arith) in
    let lb : length b ≡ i - k = length-take-le (i - k) (drop k s) (simp length-drop (omega arith)) in
    let lc : length c ≡ n = length-take-le n (drop k s) (simp length-drop (omega arith)) in
    let e : k + (i - k) ≡ i = omega arith in
    let first : take i s ≡ a ++ b = ap (λ (x : ℕ). take x s) (sym e) ∙ take-add k (i - k) s in
    ap₂ (λ (x : ℕ) (l : List ℕ). patch x c (patch at l d)) (ap (λ (x : ℕ). at + x) (sym la)) first
    ∙ ap (patch (at + length a) c) (sym (patch_append at a b d (omega arith)))
    ∙ patch_over (at + length a) b c (patch at a d) (omega arith) (omega (arith, length_patch at a d (omega arith)))
    ∙ patch_append at a c d (omega arith)
    ∙ ap (λ (l : List ℕ). patch at l d) (sym (take-add k n s))

-- an octet, and a write behind it
pub patch_behind : (at x : ℕ) (s d : List ℕ) → at + 1 + length s ≤ length d → patch (at + 1) s (set d at x) ≡ patch at (x ∷ s) d
unfolding patch
patch_behind at x s d h =
    ap (patch (at + 1) s) (set_split d at x (omega arith) ∙ ap (λ (n : ℕ). take at d ++ x ∷ drop n d) (sym (add-one at)))
    ∙ patch_append at (x ∷ []) s d h

-- a part put in two, one behind the other
pub patch_parts : (to i m n : ℕ) (s d : List ℕ) → i + (m + n) ≤ length s → to + (m + n) ≤ length d
    → patch (to + m) (part (i + m) n s) (patch to (part i m s) d) ≡ patch to (part i (m + n) s) d
unfolding part
patch_parts to i m n s d h k =
    let a = part i m s in
    let b = part (i + m) n s in
    let la : length a ≡ m = part_length i m s (omega arith) in
    let lb : length b ≡ n = part_length (i + m) n s (omega arith) in
    ap (λ (x : ℕ). patch (to + x) b (patch to a d)) (sym la)
    ∙ patch_append to a b d (omega arith)
    ∙ ap (λ (l : List ℕ). patch to l d)
    (sym (take-add m n (drop i s) ∙ ap (λ (l : List ℕ). a ++ take n l) (drop-drop m i s)))

-- octets stored one behind the other
pub patch_sets : (at : ℕ) (s d : List ℕ) → at + length s ≤ length d → sets d at s ≡ patch at s d
unfolding patch
patch_sets at s d h = sets-eq s d at h ∙ append_assoc (take at d) s (drop (at + length s) d)

-- the third octet written anew
pub patch_third : (at x y m n : ℕ) (s d : List ℕ) → at ≤ length d
    → set (patch at (x ∷ y ∷ m ∷ s) d) (at + 2) n ≡ patch at (x ∷ y ∷ n ∷ s) d
unfolding patch
patch_third at x y m n s d h =
    let a = take at d in
    let z = drop (at + suc (suc (suc (length s)))) d in
    ap (λ (l : List ℕ). set l (at + 2) n) (sym (append_assoc a (x ∷ y ∷ []) (m ∷ (s ++ z))))
    ∙ set_at (a ++ x ∷ y ∷ []) m (s ++ z) n (at + 2) (simp (length-append, length-take) (omega arith))
    ∙ append_assoc a (x ∷ y ∷ []) (n ∷ (s ++ z))

-- a write behind the first octets of an area leaves those
pub patch_past : (x y s : List ℕ) (at : ℕ) → patch (length x + at) s (x ++ y) ≡ x ++ patch at s y
unfolding patch
patch_past x y s at =
    let e : length x + at + length s ≡ length x + (at + length s) = omega arith in
    ap₂ (λ (a b : List ℕ). a ++ (s ++ b)) (take-append-add x y at)
    (ap (λ (k : ℕ). drop k (x ++ y)) e ∙ drop-append-add x y (at + length s))
    ∙ append_assoc x (take at y) (s ++ drop (at + length s) y)
