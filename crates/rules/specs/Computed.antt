-- One name that opens all definitions: a theorem that is computed says `unfolding computed`.
use Rattle.rules.specs.Octets.{between, same_octets, member, is_empty, some_of, each_of, front}
use Rattle.rules.specs.Elements.{headed, items_past, element, category_of, length_code, bits_within, codec_within, value_within}
use Rattle.rules.specs.Elements.{offerable, may_follow, start_right, offer_code, offers_in, offered, fixed, is_strange, item_code}
use Rattle.rules.specs.Elements.{no_fault, judge, item_category, blamed, missing, lacking, fault_or, fault_past, fault_in, is_of}
use Rattle.rules.specs.Elements.{has, clear_low, kept, pick, picks, stored, restored, could_store}
use Rattle.rules.specs.Book.{kind_right, media_type, is_source, list_right, entries_number, book_number, entries_in, book_of}
use Rattle.rules.specs.Book.{later}
use Rattle.rules.specs.Book.{find, written, up_to_codec, shown_by_02, shown_by_0C}
use Rattle.rules.specs.Packets.{size_right, longest, label_in, mtype_in, signal_in, packet_type_in, message_from, read_as, read}
use Rattle.rules.specs.Packets.{packet_in, ended, completes, gathers, extended, begin, is_next, joined, goes_on, taken, gather}
use Rattle.rules.specs.Packets.{gathering_right}
use Rattle.rules.specs.Cutting.{packets_for, part_of, first_octet, header, count_of, packet_at, packets_from, cut_up}
use Rattle.rules.specs.Gathered.{with_done, gather_all}
use Rattle.rules.specs.Endpoints.{idle, fresh_ends, fresh_connection, is_absent, is_awaited, is_up, is_idle, is_reported}
use Rattle.rules.specs.Endpoints.{channel_right, takes_delay, delay_right, far_right, keeps_nothing, keeps_settings, legal_end}
use Rattle.rules.specs.Endpoints.{legal_ends, awaiting, legal_gathering, legal, moved_by, with_config, forgotten, leaving}
use Rattle.rules.specs.Endpoints.{end_at, up_in, with_ends, down_at, happens}
use Rattle.rules.specs.Saved.{area_for, count_in, link_of, records_of, head_in, config_in, endpoint_in, record_right, head_octets}
use Rattle.rules.specs.Saved.{store_end, ends_in, records_right, store_ends, gathering_at, gathering_in, gathering_octets_right}
use Rattle.rules.specs.Saved.{gathering_head, store_gathering, connection_in, store, saved_right}
use Rattle.rules.specs.Commands.{signal_of, stays, moves, rejects, rejects_fault, length_right, our_in, far_in, is_configured}
use Rattle.rules.specs.Commands.{is_open, is_streaming, is_set, may, wrong_state, met_at, meets, preamble, at_met, named, in_use}
use Rattle.rules.specs.Commands.{discovered, discover, offers_at, settled, set_at, configuration_at, reconfigure_at, open_at}
use Rattle.rules.specs.Commands.{shift_one, shift_each, shift, leave_at, security_at, delay_at, obey, answer}
use Rattle.rules.specs.Host.{check_call, number_or, saved_number, refusal_of, packet_refusal, fresh_call, nothing_said, said}
use Rattle.rules.specs.Host.{told_of, payload_of, handled_by, takes, packet_call, event_call, settings_of, shown_at}
use Rattle.rules.specs.Host.{settings_call}
use Rattle.rules.specs.Host.{heard, heard_at, delay_call, standing, nowhere, standing_at, status_call, packets_call, cut_refusal}
use Rattle.rules.specs.Host.{cut_call}
use Rattle.rules.specs.Bursts.{packets_in, and_then, successive, burst_refusal, filled, none_told, burst_taken, burst_call}
use Rattle.rules.specs.Sessions.{keeping, answered, answered_each, asked, call, answers, after}

unfoldable pub computed : Unit {0}
unfolding between same_octets member is_empty some_of each_of front headed items_past element category_of length_code bits_within
    codec_within value_within offerable may_follow start_right offer_code offers_in offered fixed is_strange item_code no_fault
    judge
    item_category blamed missing lacking fault_or fault_past fault_in is_of has clear_low kept pick picks stored restored
    could_store kind_right media_type is_source list_right entries_number book_number entries_in book_of later find written
    up_to_codec
    shown_by_02 shown_by_0C size_right longest label_in mtype_in signal_in packet_type_in message_from read_as read packet_in
    ended completes
    gathers extended begin is_next joined goes_on taken gather gathering_right packets_for part_of first_octet header count_of
    packet_at packets_from cut_up with_done gather_all idle fresh_ends fresh_connection is_absent is_awaited is_up is_idle
    is_reported
    channel_right takes_delay delay_right far_right keeps_nothing keeps_settings legal_end legal_ends awaiting legal_gathering
    legal moved_by with_config forgotten leaving end_at up_in with_ends down_at happens area_for count_in link_of records_of
    head_in
    config_in endpoint_in record_right head_octets store_end ends_in records_right store_ends gathering_at gathering_in
    gathering_octets_right gathering_head store_gathering connection_in store saved_right signal_of stays moves rejects
    rejects_fault length_right our_in far_in is_configured is_open is_streaming is_set may wrong_state met_at meets preamble
    at_met
    named in_use discovered discover offers_at settled set_at configuration_at reconfigure_at open_at shift_one shift_each shift
    leave_at security_at delay_at obey answer check_call number_or saved_number refusal_of packet_refusal fresh_call nothing_said
    said told_of payload_of handled_by takes packet_call event_call settings_of shown_at settings_call heard heard_at delay_call
    standing nowhere standing_at status_call packets_call cut_refusal cut_call packets_in and_then successive burst_refusal filled
    none_told burst_taken burst_call keeping answered answered_each asked call answers after
computed = tt
