-- The meaning: document 01's sentences in their order, each with the definition that realises it.
--
-- The endpoint book
--   mark, version, count, entries and nothing after ............. Book.book_number, entries_number; what it says: Book.book_of
--   kind octet .................................................. Book.kind_right, media_type, is_source
--   a list is empty, or one whole element followed by a list .... Elements.items (headed, items_past)
--   categories of a book, their order and lengths, 1 and 7 ...... Elements.offer_code, lacking; Book.list_right
-- What the host is told
--   numbers 1 to 7, in order .................................... Book.book_number
--   8, 9, 12, 10, in order ...................................... Host.packet_refusal, refusal_of, saved_number
--   the cutter: 8, 11, 9 ........................................ Host.cut_refusal
--   which numbers each call can give ............................ Listed.refusals; every answer: Listed.Listed
--   a refusal changes no area, and shows zeros .................. Listed.refused_with; Host.nothing_said
--   a reply's payload at the front, the octets behind stay ...... Octets.front
--   one record per book entry, in the book's order .............. Saved.saved_right (count_in); Endpoints.legal_ends
--   an idle endpoint, and another one ........................... Endpoints.keeps_nothing, keeps_settings
--   only an open endpoint awaits a channel, and at most one ..... Endpoints.channel_right, awaiting, legal
--   a delay only on a source configured with category 8 ......... Endpoints.delay_right, takes_delay
--   limits of a gathering ....................................... Packets.gathering_right
--   our SEIDs and the far end's ................................. OurSeid, FarSeid (src/lib.rt)
-- Packets and messages
--   headers as read, and as written ............................. Packets.label_in, mtype_in, signal_in, read_as; Cutting.header
--   gathering ................................................... Packets.gather (packet_in, taken, is_next, begin)
--   a completed message that is not a command is silent ......... Commands.answer
--   cutting at packet size m .................................... Cutting.packets_for, part_of, packet_at, cut_up
-- Commands, each with its checks in order
--   length, known, state ........................................ Commands.preamble (length_right, meets, may, wrong_state)
--   a reject's payload .......................................... Commands.rejects, rejects_fault
--   01 .......................................................... Commands.discover
--   02, 0C ...................................................... Commands.offers_at with Book.shown_by_02, shown_by_0C
--   03, 05 ...................................................... Commands.set_at, reconfigure_at
--   04 .......................................................... Commands.configuration_at
--   06 .......................................................... Commands.open_at
--   07, 09 ...................................................... Commands.shift (shift_each, shift_one)
--   08, 0A ...................................................... Commands.leave_at; Endpoints.leaving
--   0B, 0D ...................................................... Commands.security_at, delay_at
--   00 and 0E to 3F ............................................. Commands.signal_of, obey
--   link events ................................................. Endpoints.happens
--   reaching idle forgets ....................................... Endpoints.forgotten
--   settings, delay, and how an endpoint stands ................. Host.settings_call, delay_call, status_call
-- Elements
--   checked left to right, the first failure .................... Elements.fault_in (item_code, judge, length_code)
--   offered ..................................................... Elements.offered, value_within, codec_within
--   1 missing, then 7 missing ................................... Elements.lacking
--   stored ascending, the low nibble as zero .................... Elements.stored, kept; in the place of the old one: restored
-- Traces from one fresh connection ............................... Table.trace_table; Traces.traces
-- Bursts (document 02, Q-1)
--   up to 16 packets, one behind the other ...................... Bursts.packets_in
--   as taking them one by one, each on its own 64 octets ........ Bursts.successive
--   8, 13, 9, before the first packet is read ................... Bursts.burst_refusal
--   a refusal tells zeros, and beyond the count zeros ........... Bursts.none_told, filled
-- Any sequence of calls .......................................... Sessions.call, answers, after
-- Demand 2's Start and Suspend ................................... Moves.Stopped, StoppedSeen
-- Demand 3 ....................................................... Alike.alike, restrained, Begins, cleared, compared, Alike
pub mod Octets
pub mod Delays
pub mod Elements
pub mod Book
pub mod Packets
pub mod Cutting
pub mod Gathered
pub mod Endpoints
pub mod Saved
pub mod Commands
pub mod Refusals
pub mod Host
pub mod Bursts
pub mod Calls
pub mod Sessions
pub mod OneByOne
pub mod Listed
pub mod Views
pub mod Alike
pub mod Moves
pub mod Computed
pub mod Table
