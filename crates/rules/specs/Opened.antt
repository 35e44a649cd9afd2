-- One name for all the definitions, to compute with them: `unfolding opened` opens them all.
use Rattle.std.specs.Prelude.{ℕ}
use Rattle.rules.specs.Place.{round_up, align_from}
use Rattle.rules.specs.Bits.{bit_index, bit_at, bits, signed, word}
use Rattle.rules.specs.Leb128.{below, sevens, fit_unsigned, fits64, signed_value, fit_signed, leb_unsigned, leb_signed}
use Rattle.rules.specs.Clock.{advance, clock_after}
use Rattle.rules.specs.Text.{text_length, one_later, zero_at, rows, row_of, utf8_from, utf8, is_text}
use Rattle.rules.specs.Slots.{no_slots, packet_slots, slot_at, set_slot, unset}
use Rattle.rules.specs.Class.{records, member_records, option_records, setting, sets, members_set, options_set, kind_of, count, key}
use Rattle.rules.specs.Class.{holds, any_holds, align_of, aligns_of}
use Rattle.rules.specs.Record.{number, u8, u16, u64, no, bits_layout, layouts, layout_of, size, record_of, behind}
use Rattle.rules.specs.Faults.{pick, out, no_ids, seen, among, pair_among, fragment_fault, record_fault, first_fault, is_top, is_leading}
use Rattle.rules.specs.Faults.{member_spot, bad_number, bad_slot, roles, role_of, number_role, blob_role, bad_role, class_fault, sign_of}
use Rattle.rules.specs.Faults.{other_sign, meets, range_fault, option_fault, root_fault, many, open_fault}
use Rattle.rules.specs.Homes.{both, across, more, onward, out as out_walked, is_whole, is_range, walk_ranges, walk_option}
use Rattle.rules.specs.Homes.{walk_options, walk_members, walk_shape, walk_record, walk_class, is_any_root, walk_roots, homes_of}
use Rattle.rules.specs.Homes.{homes_before, header_homes, stream_homes, walk_rest, walk_opened, walk_fragments, walk}
use Rattle.rules.specs.Table.{find_stream, find_event, asked}
use Rattle.rules.specs.Parse.{then, sound, missing, one, range_of, count_of, the_sign, parse_ranges, parse_options, parse_members, order_of}
use Rattle.rules.specs.Parse.{selected, parse_shape, parse_body, parse_class, is_root, any_root, parse_roots, root_numbers, is_timed, has_uuid}
use Rattle.rules.specs.Parse.{no_table, root_of, uuid_of, add, parse_fragment, parse_opened, parse_fragments, parse_table, or_fault, parse, byte_of, checked_of}
use Rattle.rules.specs.Parse.{checked, checked_number, checked_byte}
use Rattle.rules.specs.Entry.{words}
use Rattle.rules.specs.Verdict.{refusal_number, refusal_first, refusal_second, number_of, place_of, first_of, second_of}
use Rattle.rules.specs.Step.{onto, after, ◌⨾◌, pass, refuse, refuse_at, check, check_at, due, listed, change}
use Rattle.rules.specs.Step.{with_slots, with_order, with_clock, with_last, with_said}
use Rattle.rules.specs.Field.{aligned, fit, ahead, bytes_at, field, store, new_clock, say, role, same_bytes}
use Rattle.rules.specs.Field.{blob_role as blob_role_in_field}
use Rattle.rules.specs.Field.{from_slot, as_flag, as_number, as_length, truth, one_or_none, value_of, slot_of, other_order, turned, read_fixed}
use Rattle.rules.specs.Field.{read_leb, as_text, read_zero, read_text, read_blob, times, forget, present, read, read_members, read_option}
use Rattle.rules.specs.Packet.{mark, read_root, root_records, with_event, start_event, read_event, end_packet, read_events, or_else, above, read_content}
use Rattle.rules.specs.Packet.{with_stream, differs, nothing_said, start_packet, read_packet, read_packets}
use Rattle.rules.specs.Read.{result_of, list_after, ended, begin, read_stream, read_parsed, read_all}

unfoldable pub opened : ℕ
unfolding round_up align_from bit_index bit_at bits signed word below sevens fit_unsigned fits64 signed_value fit_signed leb_unsigned leb_signed
    advance clock_after text_length one_later zero_at rows row_of utf8_from utf8 is_text no_slots packet_slots slot_at set_slot unset
    records member_records option_records setting sets members_set options_set
    kind_of count key holds any_holds align_of aligns_of number u8 u16 u64 no bits_layout layouts layout_of size record_of behind pick
    out no_ids seen among pair_among fragment_fault record_fault first_fault is_top is_leading member_spot bad_number bad_slot roles role_of
    number_role blob_role bad_role class_fault sign_of other_sign meets range_fault option_fault root_fault many open_fault both across
    more onward out_walked is_whole is_range walk_ranges walk_option walk_options walk_members walk_shape walk_record walk_class is_any_root
    walk_roots homes_of homes_before header_homes stream_homes walk_rest walk_opened walk_fragments walk find_stream find_event asked then
    sound missing one range_of count_of the_sign parse_ranges parse_options parse_members order_of selected parse_shape parse_body
    parse_class is_root any_root parse_roots root_numbers is_timed has_uuid no_table root_of uuid_of add parse_fragment parse_opened
    parse_fragments parse_table or_fault parse byte_of checked_of checked checked_number checked_byte words refusal_number refusal_first
    refusal_second number_of place_of first_of second_of onto after ◌⨾◌ pass refuse refuse_at check check_at due listed change with_slots with_order
    with_clock with_last with_said aligned fit ahead bytes_at field store new_clock say role same_bytes blob_role_in_field from_slot as_flag
    as_number as_length truth one_or_none value_of slot_of other_order turned read_fixed read_leb as_text read_zero read_text read_blob times forget
    present read read_members read_option mark read_root root_records with_event start_event read_event end_packet read_events or_else above
    read_content with_stream differs nothing_said start_packet read_packet read_packets result_of list_after ended begin read_stream
    read_parsed read_all
opened = 0
