-- What holds in each arm of a command holds of the command: by cases on a test, and on what the checks at its beginning come to.
use Prim.Native.Nat.{ℕ, ◌*◌}
use mathlib.Core.Path.{◌≡◌, refl}
use mathlib.Core.List.{List}
use mathlib.Core.Bool.{Bool, true, false}
use lib.ListN.{length, get_or, set}
use Rattle.std.specs.Prelude.{if◌then◌else◌}
use Rattle.rules.specs.Book.{Entry, Book, Found, unknown, known, find}
use Rattle.rules.specs.Endpoints.{Ends, in_state, end_at, moved_by}
use Rattle.rules.specs.Commands.{Outcome, stays, rejects, length_right, our_in, may, wrong_state, Met, refused, here, met_at}
use Rattle.rules.specs.Commands.{meets, preamble, at_met, named, shift_one}
use Rattle.rules.specs.declared.OurSeid.{OurSeid}
use Rattle.rules.specs.declared.State.{State}
use Rattle.rules.specs.declared.Signal.{Signal}
use Rattle.rules.proofs.Places.{At, find_known}

pub if_arms : {A : Type 0} (P : A → Type 0) (b : Bool) (x y : A) → (b ≡ true → P x) → (b ≡ false → P y) → P (if b then x else y)
if_arms P true x y f g = f refl
if_arms P false x y f g = g refl

-- the endpoint at a place takes the command in its state
abbrev pub Takes : Signal → Ends → ℕ → Type 0
Takes signal ends i = may signal (end_at ends i).head.state (end_at ends i).head.channel ≡ true

module _ (signal : Signal) (book : Book) (ends : Ends) where
  module _ (P : Met → Type 0) (refuses : (code : ℕ) → P (refused code))
      (goes : (i : ℕ) (n : Entry) → At book i n → Takes signal ends i → P (here i n)) where
    met_arms : (f : Found) → ((i : ℕ) (n : Entry) → f ≡ known i n → At book i n) → P (met_at signal ends f)
    unfolding met_at
    met_arms unknown there = refuses 0x12
    met_arms (known i n) there =
        let e = end_at ends i in
        if_arms P (may signal e.head.state e.head.channel) (here i n) (refused (wrong_state signal e.head.state))
        (goes i n (there i n refl)) (λ f. refuses (wrong_state signal e.head.state))

    meets_arms : (s : OurSeid) → P (meets signal book ends s)
    unfolding meets
    meets_arms s = met_arms (find s book) (λ i n e. (find_known s book i n e).place)

    preamble_arms : (p : List ℕ) → P (preamble signal book ends p)
    unfolding preamble
    preamble_arms p =
        if_arms P (length_right signal (length p)) (meets signal book ends (our_in (get_or p 0 0))) (refused 0x11)
        (λ t. meets_arms (our_in (get_or p 0 0))) (λ f. refuses 0x11)

  module _ (P : Outcome → Type 0) where
    -- of a command that names one endpoint: where it is refused, and at the endpoint
    pub named_arms : (p : List ℕ) (on : ℕ → Entry → Outcome) → ((code : ℕ) → P (stays ends (rejects signal 0 code)))
        → ((i : ℕ) (n : Entry) → At book i n → Takes signal ends i → P (on i n)) → P (named signal book ends p on)
    unfolding named at_met
    named_arms p on refuses goes = preamble_arms (λ m. P (at_met signal ends on m)) refuses goes p

    -- of the first of the SEIDs that are shifted
    pub shift_arms : (to : State) (s : OurSeid) (next : Ends → Outcome)
        → ((code : ℕ) → P (stays ends (rejects signal (s.0 * 4) code)))
        → ((i : ℕ) (n : Entry) → At book i n → Takes signal ends i
        → P (next (set ends i (moved_by (in_state to) (end_at ends i)))))
        → P (shift_one signal to s ends next (meets signal book ends s))
    unfolding shift_one
    shift_arms to s next refuses goes = meets_arms (λ m. P (shift_one signal to s ends next m)) refuses goes s
