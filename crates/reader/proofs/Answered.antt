-- From the packets to the result: what the trace class lends, that no more is asked than 20 and 21, and the result's numbers.
use Rattle.std.specs.Prelude.{Option, None, Some, Ok, Err, ⊤, Result}
use mathlib.Core.Path.{◌≡◌, refl, sym, ap, ◌∙◌, subst}
use mathlib.Core.List.{List, [], ◌++◌}
use mathlib.Core.Bool.{Bool, true, false, ◌||◌}
use Prim.Native.Nat.{ℕ, ◌+◌, ◌-◌, ◌*◌, ◌/◌, ◌≤◌, ◌<◌}
use native.Mathlib.Omega.{arith}
use lib.ListN.{length, take, drop}
use lib.Dec.{ltb, eqb}
use borrow.Author.Tests.{eqb-true, eq-eqb, ne_eqb, lt-ltb, le-ltb}
use Rattle.rules.specs.declared.ByteLength.{ByteLength}
use Rattle.rules.specs.declared.TableFault.{TableFault}
use Rattle.rules.specs.declared.Entry.{Entry}
use Rattle.rules.specs.declared.Stop.{Stop}
use Rattle.rules.specs.declared.Report.{Report}
use Rattle.rules.specs.Slots.{Slots}
use Rattle.rules.specs.declared.Refusal.TheVariants.{StreamSize}
use Rattle.rules.specs.Limits.{stream_limit, words_per_entry}
use Rattle.rules.specs.Place.{bit_place}
use Rattle.rules.specs.Verdict.{stop_at, number_of, place_of, first_of, second_of, table_fault}
use Rattle.rules.specs.Entry.{words}
use Rattle.rules.specs.Record.{u8}
use Rattle.rules.specs.Step.{State, stop, go}
use Rattle.rules.specs.Table.{Table, Asked}
use Rattle.rules.specs.Parse.{Parsed, bad, good, parse, byte_of, checked_of, checked}
use Rattle.rules.specs.Packet.{first_root, read_packets}
use Rattle.rules.specs.Read.{result_of, list_after, ended, begin, read_stream, read_parsed, read_all}
use Rattle.listing.specs.declared.Progress.{Progress}
use Rattle.listing.specs.Did.{full, out_of}
use Rattle.class_layout.specs.Fragments.{asked_at, find_trace_at, fragments_of, header_at, uuid_at, root_place, opening_size, is_trace}
use Rattle.class_layout.specs.Sizes.{SizedFragment, uuid_place}
use Rattle.class_layout.specs.Notes.{Notes}
use Rattle.class_layout.proofs.Lookups.{found_some, found_none, first_holds, sixteen, uuid-bytes}
use Rattle.class_layout.proofs.RootNumbers.{first-number}
use Rattle.class_layout.proofs.Asked.{asked-at}
use Rattle.laws.specs.Kept.{KeepsSlots}
use Rattle.laws.proofs.Kept.{accepted-keeps}
use Rattle.outcome.specs.declared.Ran.{Ran}
use Rattle.event_turns.specs.Roots.{class_of, Numbered, RootStands}
use Rattle.event_turns.specs.Ready.{Ready}
use Rattle.outcome.specs.Ran.{RanDid}
use Rattle.packet_read.specs.Pieces.{first_state, Lent}
use Rattle.reader_result.specs.Answer.{refused_with, answer_of}
use Rattle.reader.specs.Answers.{Answers}
use Rattle.event_turns.proofs.Looked.{root-class, root_stands, root-numbered}

-- What the trace class lends

module _ (t : List ℕ) (x : Notes) (b : List ℕ) (g : Ready t x) (n : length b ≤ stream_limit) (y : Option ℕ)
    (e : y ≡ find_trace_at t (fragments_of t)) where
  pub lent_none : y ≡ None → Lent t x [] None b
  unfolding asked_at class_of Numbered RootStands header_at uuid_at
  lent_none h =
      let q : find_trace_at t (fragments_of t) ≡ None = found_none _ (sym h ∙ e) in
      record {
        ready = g;
        stands = tt;
        header = sym (ap (header_at t) q);
        numbered = tt;
        uuid = sym (ap (uuid_at t) q);
        small = n;
      }

  module _ (o : ℕ) (h : y ≡ Some o) where
    trace-at : find_trace_at t (fragments_of t) ≡ Some o
    trace-at = found_some _ o (sym h ∙ e)

    pub trace-sized : SizedFragment t x.sizes o
    trace-sized = (first_holds (SizedFragment t x.sizes) (is_trace t) (fragments_of t) o trace-at g.noted.sized.each).1

    pub trace-there : o + 18 ≤ length t
    unfolding opening_size is_trace
    trace-there =
        let is = (first_holds (SizedFragment t x.sizes) (is_trace t) (fragments_of t) o trace-at g.noted.sized.each).0 in
        let k : u8 t o ≡ 2 = eqb-true _ _ is in
        rw (k, opening_size) at trace-sized.stands.there

    module _ (r : Option ℕ) (j : r ≡ root_place t o 0) (u : Option ℕ) (v : u ≡ uuid_place t o) where
      header_is : class_of t r ≡ (asked_at t).header
      unfolding asked_at header_at
      header_is = root-class t o 0 r j ∙ sym (ap (header_at t) trace-at)

      header-numbered : Numbered t r first_root
      header-numbered = root-numbered t o 0 first_root r j (λ p h. first-number t o p trace-sized.stands h)

      uuid-is : (p : Option ℕ) → uuid_place t o ≡ p → sixteen t p ≡ (asked_at t).uuid
      unfolding asked_at
      uuid-is p q = ap (sixteen t) (sym q) ∙ sym (uuid-bytes t o) ∙ sym (ap (uuid_at t) trace-at)

      pub lent-bare : u ≡ None → Lent t x [] r b
      unfolding sixteen
      lent-bare k = record {
        ready = g;
        stands = root_stands t o 0 r trace-sized.stands j;
        header = header_is;
        numbered = header-numbered;
        uuid = uuid-is None (found_none _ (sym k ∙ v));
        small = n;
      }

      module _ (p : ℕ) (k : u ≡ Some p) where
        pub uuid-there : p + 16 ≤ length t
        unfolding uuid_place
        uuid-there = by (eqb (u8 t (o + 1)) 0) (found_some _ p (sym k ∙ v))
          where
            by : (z : Bool) → ◌≡◌ {A = Option ℕ} (elim z [ true ↦ None | false ↦ Some (o + 2) ]) (Some p) → p + 16 ≤ length t
            by true q = let z : ◌≡◌ {A = ℕ} 0 1 = cc in absurd (omega arith)
            by false q = let z : o + 2 ≡ p = cc in omega (arith, trace-there)

        pub lent-uuid : Lent t x (take (p + 16 - p) (drop p t)) r b
        unfolding sixteen
        lent-uuid =
            let m : p + 16 - p ≡ 16 = omega arith in
            record {
              ready = g;
              stands = root_stands t o 0 r trace-sized.stands j;
              header = header_is;
              numbered = header-numbered;
              uuid = rw (m) (uuid-is (Some p) (found_some _ p (sym k ∙ v)));
              small = n;
            }

-- The result

module _ (es : List Entry) (used : ℕ) (n : used ≡ words_per_entry * length es) (ws ws' : List ℕ) (k : ws' ≡ words es ++ drop used ws)
    (y : Report) (st : Progress) where
  entries : used / words_per_entry ≡ length es
  entries = omega arith

  on-answers : (s : State) → s.place ≡ st.place → y ≡ answer_of (Ok tt) used st → Answers (ended (go es s)) y ws ws'
  unfolding answer_of result_of ended number_of place_of first_of second_of list_after
  on-answers s p e = record { result = e ∙ rw (entries, p) refl; list = k ∙ ap (λ m. words es ++ drop m ws) n }

  stopped-answers : (v : Stop) → y ≡ answer_of (Err v) used st → Answers (ended (stop es v)) y ws ws'
  unfolding answer_of refused_with result_of ended number_of place_of first_of second_of list_after
  stopped-answers v e = record { result = e ∙ rw (entries) refl; list = k ∙ ap (λ m. words es ++ drop m ws) n }

out-answers : (es : List Entry) (went : Result ⊤ Stop) (used : ℕ) → used ≡ words_per_entry * length es → (ws ws' : List ℕ)
    → ws' ≡ words es ++ drop used ws → (y : Report) (st : Progress) (l : Slots) (room : ℕ) → y ≡ answer_of went used st
    → Answers (ended (out_of es went st l room)) y ws ws'
unfolding out_of
out-answers es (Ok u) used n ws ws' k y st l room e = on-answers es used n ws ws' k y st (full st l room) refl e
out-answers es (Err v) used n ws ws' k y st l room e = stopped-answers es used n ws ws' k y st v e

module _ (t : Asked) (b ws : List ℕ) (y : Report) where
  pub stream-answers : {r : Ran} {ws' : List ℕ} → RanDid (read_packets t b 0 None (length b) (begin (length ws))) first_state r ws ws'
      → 1 ≤ length b → length b ≤ stream_limit
      → y ≡ answer_of r.went r.used r.state → Answers (read_stream t b (length ws)) y ws ws'
  unfolding read_stream
  stream-answers {r} {ws'} d one few e =
      let a : eqb (length b) 0 ≡ false = ne_eqb (length b) 0 (λ z. omega arith) in
      rw (a, le-ltb stream_limit (length b) few, read_stream) (rw d.did.out
      (out-answers d.did.listed r.went r.used d.did.counted ws ws' d.did.list y r.state d.slots
      (length ws - r.used) e))

  -- "0 entries, place 0" (21)
  size-answers : (eqb (length b) 0 || ltb stream_limit (length b)) ≡ true → y ≡ refused_with (stop_at StreamSize (bit_place 0)) 0
      → Answers (read_stream t b (length ws)) y ws ws
  unfolding read_stream
  size-answers c e = rw (c, read_stream) (record {
    result = unfold refused_with result_of number_of place_of first_of second_of in e;
    list = unfold list_after words in refl;
  })

  pub empty-answers : length b ≡ 0 → y ≡ refused_with (stop_at StreamSize (bit_place 0)) 0 → Answers (read_stream t b (length ws)) y ws ws
  empty-answers h e = size-answers (rw (eq-eqb (length b) 0 h) refl) e

  pub large-answers : stream_limit < length b → y ≡ refused_with (stop_at StreamSize (bit_place 0)) 0
      → Answers (read_stream t b (length ws)) y ws ws
  large-answers h e =
      let a : eqb (length b) 0 ≡ false = ne_eqb (length b) 0 (λ z. omega arith) in
      size-answers (rw (a, lt-ltb stream_limit (length b) h) refl) e

-- The table

module _ (t b ws : List ℕ) where
  -- "20: table refused; first id is its number, place its byte"
  refused-answers : (m : ℕ) (y : List ℕ)
      → Answers (read_parsed t (bad m y) b (length ws))
      (record { number = 20; entries = 0; place = (byte_of t y).0; first = m; second = 0 }) ws ws
  unfolding read_parsed result_of number_of place_of first_of second_of list_after words
  refused-answers m y = record { result = refl; list = refl }

  pub table-answers : (v : TableFault) → checked t ≡ Err v
      → Answers (read_all t b (length ws)) (record { number = 20; entries = 0; place = v.byte.0; first = v.number; second = 0 }) ws ws
  unfolding read_all checked checked_of
  table-answers v h = by (parse t) h
    where
      by : (o : Parsed Table) → checked_of t o ≡ Err v
          → Answers (read_parsed t o b (length ws)) (record { number = 20; entries = 0; place = v.byte.0; first = v.number; second = 0 }) ws ws
      by (bad m y) h = let p : table_fault m (byte_of t y) ≡ v = cc in rw (← p) (refused-answers m y)
      by (good T y) h = let z : ◌≡◌ {A = ℕ} 0 1 = cc in absurd (omega arith)

  pub accepted-reads : (n : ByteLength) → checked t ≡ Ok n → read_all t b (length ws) ≡ read_stream (asked_at t) b (length ws)
  unfolding read_all checked
  accepted-reads n h = by (parse t) refl h
    where
      by : (o : Parsed Table) → parse t ≡ o → checked_of t o ≡ Ok n
          → read_parsed t o b (length ws) ≡ read_stream (asked_at t) b (length ws)
      by (bad m y) e h = let z : ◌≡◌ {A = ℕ} 0 1 = unfold checked_of in cc in absurd (omega arith)
      by (good T y) e h = unfold read_parsed in ap (λ a. read_stream a b (length ws)) (asked-at t T y e)

-- the roots of a table that the check accepts keep to their slots
pub checked-keeps : (t : List ℕ) (n : ByteLength) → checked t ≡ Ok n → KeepsSlots (asked_at t)
unfolding checked
checked-keeps t n h = by (parse t) refl h
  where
    by : (o : Parsed Table) → parse t ≡ o → checked_of t o ≡ Ok n → KeepsSlots (asked_at t)
    by (bad m y) e h = let z : ◌≡◌ {A = ℕ} 0 1 = unfold checked_of in cc in absurd (omega arith)
    by (good T y) e h = subst KeepsSlots (asked-at t T y e) (accepted-keeps t T y e)
