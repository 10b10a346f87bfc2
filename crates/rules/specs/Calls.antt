-- The contracts of the public calls, each one equation: the answer and every lent area at exit are what the definition of the
-- call makes of the inputs.
use Rattle.std.specs.Prelude.{ℕ, ◌≡◌, List}
use Rattle.rules.specs.Host.{Kept, fresh_call, Answered, packet_call, event_call, Cut, cut_call}
use Rattle.rules.specs.Bursts.{BurstAnswered, burst_call}
use Rattle.rules.specs.declared.Event.{Event}
use Rattle.rules.specs.declared.Piece.{Piece}
use Rattle.rules.specs.declared.Told.{Told}
use Rattle.rules.specs.declared.Burst.{Burst}

abbrev pub Freshens : List ℕ → List ℕ → ℕ → List ℕ → Type 0
Freshens book saved number saved' = ◌≡◌ {A = Kept} (record { number = number; saved = saved' }) (fresh_call book saved)

abbrev pub Takes : List ℕ → ℕ → List ℕ → List ℕ → List ℕ → Told → List ℕ → List ℕ → Type 0
Takes book size saved packet reply told saved' reply' =
    ◌≡◌ {A = Answered} (record { told = told; saved = saved'; reply = reply' }) (packet_call book size saved packet reply)

abbrev pub TakesAll : List ℕ → ℕ → List ℕ → List ℕ → List ℕ → List ℕ → Burst → List ℕ → List ℕ → Type 0
TakesAll book size saved octets lengths reply burst saved' reply' =
    ◌≡◌ {A = BurstAnswered} (record { burst = burst; saved = saved'; reply = reply' })
    (burst_call book size saved octets lengths reply)

abbrev pub Happens : List ℕ → List ℕ → Event → ℕ → List ℕ → Type 0
Happens book saved e number saved' = ◌≡◌ {A = Kept} (record { number = number; saved = saved' }) (event_call book saved e)

abbrev pub Cuts : ℕ → ℕ → ℕ → ℕ → List ℕ → ℕ → List ℕ → Piece → List ℕ → Type 0
Cuts size label mtype signal payload index area piece area' =
    ◌≡◌ {A = Cut} (record { piece = piece; area = area' })
    (cut_call size (record { header = record { label = label; mtype = mtype; signal = signal }; payload = payload }) index area)
