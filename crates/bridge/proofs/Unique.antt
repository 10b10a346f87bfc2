-- A contract leaves no choice: two answers that both meet it, with the lent areas at exit, are the one that its definition makes
-- of the inputs. Where a call answers a Result, its number is that one, and no two Results have the same number.
use Prim.Native.Nat.{ℕ}
use mathlib.Core.Path.{◌≡◌, refl, sym, ap, ◌∙◌}
use mathlib.Core.List.{List}
use Rattle.rules.specs.Host.{Kept, Answered, Cut, check_call, settings_call, status_call, packets_call, delay_call}
use Rattle.rules.specs.declared.OurSeid.{OurSeid}
use Rattle.rules.specs.declared.Event.{Event}
use Rattle.rules.specs.declared.Piece.{Piece}
use Rattle.rules.specs.declared.Standing.{Standing}
use Rattle.rules.specs.declared.Heard.{Heard}
use Rattle.rules.specs.declared.Told.{Told}
use Rattle.std.specs.Prelude.{⊤, Ok, Err, [], ◌∷◌, get_or}
use Rattle.std.specs.declared.result.Result.{Result}
use Rattle.rules.specs.Refusals.{number_told}
use Rattle.rules.specs.declared.refusals.Refusal.{Refusal}
use Rattle.rules.specs.declared.refusals.Refusal.TheVariants.{BookLength, BookMark, BookVersion, BookCount, BookSeid, BookKind}
use Rattle.rules.specs.declared.refusals.Refusal.TheVariants.{BookList, PacketSize, Area, NotApplicable, Message, Saved}
use Rattle.rules.specs.declared.refusals.Refusal.TheVariants as Refusals
use Rattle.rules.specs.Bursts.{BurstAnswered}
use Rattle.rules.specs.declared.Burst.{Burst}
use Rattle.rules.specs.Calls.{Freshens, Takes, TakesAll, Happens, Cuts}

-- the Result of a number
by_number : ℕ → Result ⊤ Refusal
by_number n =
    get_or
    (Ok tt ∷ Err BookLength ∷ Err BookMark ∷ Err BookVersion ∷ Err BookCount ∷ Err BookSeid ∷ Err BookKind ∷ Err BookList
    ∷ Err PacketSize ∷ Err Area ∷ Err NotApplicable ∷ Err Message ∷ Err Saved ∷ Err Refusals.Burst ∷ [])
    n (Ok tt)

told_back : (r : Result ⊤ Refusal) → by_number (number_told r) ≡ r
unfolding by_number
told_back (Ok done) = refl
told_back (Err BookLength) = refl
told_back (Err BookMark) = refl
told_back (Err BookVersion) = refl
told_back (Err BookCount) = refl
told_back (Err BookSeid) = refl
told_back (Err BookKind) = refl
told_back (Err BookList) = refl
told_back (Err PacketSize) = refl
told_back (Err Area) = refl
told_back (Err NotApplicable) = refl
told_back (Err Message) = refl
told_back (Err Saved) = refl
told_back (Err Refusals.Burst) = refl

pub told_unique : (r s : Result ⊤ Refusal) → number_told r ≡ number_told s → r ≡ s
told_unique r s e = sym (told_back r) ∙ ap by_number e ∙ told_back s

pub check_unique : (book : List ℕ) {n m : ℕ} → n ≡ check_call book → m ≡ check_call book → n ≡ m
check_unique book p q = p ∙ sym q

pub check_result_unique : (book : List ℕ) {r s : Result ⊤ Refusal} → number_told r ≡ check_call book
    → number_told s ≡ check_call book → r ≡ s
check_result_unique book {r} {s} p q = told_unique r s (check_unique book p q)

pub fresh_unique : (book saved : List ℕ) {n m : ℕ} {s t : List ℕ} → Freshens book saved n s → Freshens book saved m t
    → (n ≡ m) × (s ≡ t)
fresh_unique book saved p q =
    (ap (λ (k : Kept). k.number) (p ∙ sym q), ap (λ (k : Kept). k.saved) (p ∙ sym q))

pub fresh_result_unique : (book saved : List ℕ) {r r' : Result ⊤ Refusal} {s t : List ℕ}
    → Freshens book saved (number_told r) s → Freshens book saved (number_told r') t → (r ≡ r') × (s ≡ t)
fresh_result_unique book saved {r} {r'} p q =
    let e = fresh_unique book saved p q in (told_unique r r' e.0, e.1)

pub packet_unique : (book : List ℕ) (size : ℕ) (saved packet reply : List ℕ) {t u : Told} {s s' r r' : List ℕ}
    → Takes book size saved packet reply t s r → Takes book size saved packet reply u s' r' → (t ≡ u) × (s ≡ s') × (r ≡ r')
packet_unique book size saved packet reply p q =
    let e = p ∙ sym q in (
      ap (λ (a : Answered). a.told) e,
      ap (λ (a : Answered). a.saved) e,
      ap (λ (a : Answered). a.reply) e,
    )

pub burst_unique : (book : List ℕ) (size : ℕ) (saved octets lengths reply : List ℕ) {t u : Burst} {s s' r r' : List ℕ}
    → TakesAll book size saved octets lengths reply t s r → TakesAll book size saved octets lengths reply u s' r'
    → (t ≡ u) × (s ≡ s') × (r ≡ r')
burst_unique book size saved octets lengths reply p q =
    let e = p ∙ sym q in (
      ap (λ (a : BurstAnswered). a.burst) e,
      ap (λ (a : BurstAnswered). a.saved) e,
      ap (λ (a : BurstAnswered). a.reply) e,
    )

pub event_unique : (book saved : List ℕ) (e : Event) {n m : ℕ} {s t : List ℕ} → Happens book saved e n s
    → Happens book saved e m t → (n ≡ m) × (s ≡ t)
event_unique book saved e p q =
    (ap (λ (k : Kept). k.number) (p ∙ sym q), ap (λ (k : Kept). k.saved) (p ∙ sym q))

pub event_result_unique : (book saved : List ℕ) (e : Event) {r r' : Result ⊤ Refusal} {s t : List ℕ}
    → Happens book saved e (number_told r) s → Happens book saved e (number_told r') t → (r ≡ r') × (s ≡ t)
event_result_unique book saved v {r} {r'} p q =
    let e = event_unique book saved v p q in (told_unique r r' e.0, e.1)

pub settings_unique : (book saved : List ℕ) (s : OurSeid) {a b : List ℕ} → a ≡ (settings_call book saved s).part
    → b ≡ (settings_call book saved s).part → a ≡ b
settings_unique book saved s p q = p ∙ sym q

pub settings_told_unique : (book saved : List ℕ) (s : OurSeid) {n m : ℕ} → n ≡ (settings_call book saved s).number
    → m ≡ (settings_call book saved s).number → n ≡ m
settings_told_unique book saved s p q = p ∙ sym q

pub settings_told_result_unique : (book saved : List ℕ) (s : OurSeid) {r r' : Result ⊤ Refusal}
    → number_told r ≡ (settings_call book saved s).number → number_told r' ≡ (settings_call book saved s).number → r ≡ r'
settings_told_result_unique book saved s {r} {r'} p q = told_unique r r' (settings_told_unique book saved s p q)

pub delay_unique : (book saved : List ℕ) (s : OurSeid) {h k : Heard} → h ≡ delay_call book saved s → k ≡ delay_call book saved s
    → h ≡ k
delay_unique book saved s p q = p ∙ sym q

pub status_unique : (book saved : List ℕ) (s : OurSeid) {t u : Standing} → t ≡ status_call book saved s
    → u ≡ status_call book saved s → t ≡ u
status_unique book saved s p q = p ∙ sym q

pub packets_unique : (size length : ℕ) {n m : ℕ} → n ≡ packets_call size length → m ≡ packets_call size length → n ≡ m
packets_unique size length p q = p ∙ sym q

pub cut_unique : (size label mtype signal : ℕ) (payload : List ℕ) (index : ℕ) (area : List ℕ) {c d : Piece} {a b : List ℕ}
    → Cuts size label mtype signal payload index area c a
    → Cuts size label mtype signal payload index area d b → (c ≡ d) × (a ≡ b)
cut_unique size label mtype signal payload index area p q =
    let e = p ∙ sym q in
    (ap (λ (x : Cut). x.piece) e, ap (λ (x : Cut). x.area) e)
