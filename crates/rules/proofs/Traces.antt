-- The tables of document 01 hold of the definitions: each is played over the host's calls and compared, octet for octet. So is a
-- burst of packets of the trace table.
use mathlib.Core.Path.{◌≡◌, refl}
use mathlib.Core.List.{[], ◌∷◌, ◌++◌}
use lib.ListN.{replicate}
use Rattle.rules.specs.Saved.{area_for}
use Rattle.rules.specs.Host.{nothing_said, fresh_call}
use Rattle.rules.specs.Bursts.{burst_call}
use Rattle.rules.specs.Computed.{computed}
use Rattle.rules.specs.Table.{played, played_fresh, out_of, state_found, trace_book, trace_table, cut_lengths, hall_table}

pub traces : played_fresh trace_book 48 trace_table ≡ trace_table
unfolding computed played played_fresh out_of state_found trace_book trace_table
traces = refl

pub cuts_46 : cut_lengths 48 46 ≡ 48 ∷ []
unfolding computed cut_lengths
cuts_46 = refl

pub cuts_47 : cut_lengths 48 47 ≡ 48 ∷ 3 ∷ []
unfolding computed cut_lengths
cuts_47 = refl

pub cuts_92 : cut_lengths 48 92 ≡ 48 ∷ 48 ∷ []
unfolding computed cut_lengths
cuts_92 = refl

pub cuts_93 : cut_lengths 48 93 ≡ 48 ∷ 48 ∷ 2 ∷ []
unfolding computed cut_lengths
cuts_93 = refl

pub lecture_hall : played_fresh trace_book 48 hall_table ≡ hall_table
unfolding computed played played_fresh out_of state_found trace_book hall_table
lecture_hall = refl

-- Discover and a Get Capabilities in two pieces, by one call: the replies of the table at octets 0 and 128, and the 64 octets of
-- the first piece, which is silent, as they were.
pub burst_traced :
    let a =
    burst_call trace_book 48 (fresh_call trace_book (replicate (area_for 2) 0xDD)).saved
    (0x10 ∷ 0x01 ∷ 0x24 ∷ 0x02 ∷ 0x02 ∷ 0x2C ∷ 0x04 ∷ []) (2 ∷ 3 ∷ 2 ∷ []) (replicate 1024 0xEE) in
    (a.burst
    ≡ record {
      number = 0;
      told =
          record { number = 0; label = 1; mtype = 2; signal = 0x01; length = 4 }
          ∷ nothing_said 0
          ∷ record { number = 0; label = 2; mtype = 2; signal = 0x02; length = 10 }
          ∷ replicate 13 (nothing_said 0);
    })
    × (a.reply
    ≡ (0x04 ∷ 0x00 ∷ 0x14 ∷ 0x08 ∷ replicate 60 0xEE)
    ++ replicate 64 0xEE
    ++ (0x01 ∷ 0x00 ∷ 0x07 ∷ 0x06 ∷ 0x00 ∷ 0x00 ∷ 0xFF ∷ 0xFF ∷ 0x02 ∷ 0x35 ∷ replicate 54 0xEE)
    ++ replicate 832 0xEE)
unfolding computed trace_book
burst_traced = (refl, refl)
