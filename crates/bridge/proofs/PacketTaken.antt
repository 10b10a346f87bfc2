-- A packet that is refused changes nothing and tells its number, and one that is not refused is taken: the number decides. So it
-- does of a burst.
use Rattle.std.proofs.Common.{ℕ, ◌≡◌, sym, ap, subst, ◌∙◌, List}
use borrow.Author.Tests.{ne_eqb}
use Rattle.rules.specs.Host.{packet_refusal, nothing_said, Answered, packet_call}
use Rattle.rules.specs.Bursts.{packets_in, burst_refusal, none_told, BurstAnswered, burst_taken, burst_call}
use Rattle.rules.specs.Refusals.{number_of}
use Rattle.rules.specs.declared.refusals.Refusal.{Refusal}
use Rattle.rules.specs.declared.Told.{Told}
use Rattle.rules.specs.declared.Burst.{Burst}
use Rattle.rules.proofs.Refusing.{never_0}
use Rattle.rules.proofs.Unrefused.{packet_unrefused, packet_room}
use Rattle.bridge_packet.specs.Taken.{MayTake, taken_on}

module _ (book : List ℕ) (size : ℕ) (saved p reply : List ℕ) where
  pub packet_refused : (refusal : Refusal) (n : ℕ) (told : Told) → number_of refusal ≡ packet_refusal book size saved reply
      → n ≡ number_of refusal → told ≡ nothing_said n
      → ◌≡◌ {A = Answered} (record { told = told; saved = saved; reply = reply }) (packet_call book size saved p reply)
  unfolding packet_call
  packet_refused refusal n told e f t = rw (← e, ne_eqb (number_of refusal) 0 (never_0 refusal), t, f)

  module _ (right : List ℕ) (same : right ≡ book) (allowed : 0 ≡ packet_refusal book size saved reply) where
    pub may_take : MayTake right saved reply
    may_take =
        subst (λ (b : List ℕ). MayTake b saved reply) (sym same)
        (record {
          legal = (packet_unrefused book size saved reply (sym allowed)).right;
          room = packet_room book size saved reply (sym allowed);
        })

    pub packet_taken : (a : Answered) → a ≡ taken_on right size saved p reply → a ≡ packet_call book size saved p reply
    unfolding packet_call taken_on
    packet_taken a t = t ∙ ap (λ (b : List ℕ). taken_on b size saved p reply) same ∙ sym (rw (← allowed))

module _ (book : List ℕ) (size : ℕ) (saved octets lengths reply : List ℕ) where
  pub burst_refused : (refusal : Refusal) (n : ℕ) (burst : Burst)
      → number_of refusal ≡ burst_refusal book size saved lengths reply → n ≡ number_of refusal → burst ≡ none_told n
      → ◌≡◌ {A = BurstAnswered} (record { burst = burst; saved = saved; reply = reply })
      (burst_call book size saved octets lengths reply)
  unfolding burst_call
  burst_refused refusal n burst e f t = rw (← e, ne_eqb (number_of refusal) 0 (never_0 refusal), t, f)

  module _ (right : List ℕ) (same : right ≡ book) (allowed : 0 ≡ burst_refusal book size saved lengths reply) where
    pub may_take_all : burst_refusal right size saved lengths reply ≡ 0
    may_take_all = ap (λ (b : List ℕ). burst_refusal b size saved lengths reply) same ∙ sym allowed

    pub burst_taken_lem : (a : BurstAnswered) → a ≡ burst_taken right size saved (packets_in octets lengths) reply
        → a ≡ burst_call book size saved octets lengths reply
    unfolding burst_call
    burst_taken_lem a t =
        t
        ∙ ap (λ (b : List ℕ). burst_taken b size saved (packets_in octets lengths) reply) same
        ∙ sym (rw (← allowed))
