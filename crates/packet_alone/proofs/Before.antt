-- A packet that ends where two streams still agree, or before, reads the same in both: it reads among the bytes that they share, and from
-- there in the other. What stands for its lengths, were none stated, is the whole rest of its stream, which it does not take.
use Rattle.std.specs.Prelude.{Option}
use mathlib.Core.Path.{◌≡◌, refl, sym, ap, ◌∙◌}
use Prim.Native.Nat.{ℕ, ◌+◌, ◌-◌, ◌*◌, ◌/◌, ◌%◌, ◌≤◌, ◌<◌}
use native.Mathlib.Omega.{arith}
use mathlib.Core.List.{List, [], ◌∷◌, ◌++◌, append-nil}
use lib.ListN.{length, drop, length-drop, length-append}
use lib.Seq.{drop-append-le}
use Rattle.rules.specs.declared.BitPlace.{BitPlace}
use Rattle.rules.specs.declared.Entry.{Entry}
use Rattle.rules.specs.Limits.{words_per_entry}
use Rattle.rules.specs.Place.{bit_place}
use Rattle.rules.specs.Step.{State, go}
use Rattle.rules.specs.Table.{Asked}
use Rattle.rules.specs.Field.{Env}
use Rattle.rules.specs.Packet.{read_packet}
use Rattle.laws.specs.Between.{Between}
use Rattle.packet_alone.specs.Behind.{to_end, less, packet}
use Rattle.laws.specs.Far.{far_entry, far_all, far}
use Rattle.laws.specs.Far.{Like}
use Rattle.packet_alone.proofs.Beside.{same}
use Rattle.packet_alone.proofs.Alone.{Went, reads-alone, reads-there}
use Rattle.packet_alone.proofs.Ran.{RanWhole, ran, run, ran-whole, run-whole}
use Rattle.packet_alone.proofs.Ends.{any-rest}

prefix-like : (t : Asked) (w v : List ℕ) (p : BitPlace) → p.0 % 8 ≡ 0 → p.0 ≤ 8 * length w → Like (to_end t w p) (to_end t (w ++ v) p)
prefix-like t w v p z l = record {
  w = drop (p.0 / 8) w;
  post = [];
  post' = v;
  here = sym (append-nil (drop (p.0 / 8) w));
  there = drop-append-le (p.0 / 8) w v (omega arith);
  whole = z;
  whole' = z;
  covers = omega (arith, length-drop (p.0 / 8) w);
  inside = l;
  inside' = omega (arith, length-append w v);
  narrower = omega (arith, length-append w v);
  uuids = refl;
}

-- what is moved asks for the starts alone
moved_same : (t : Asked) (w v v' : List ℕ) (p : BitPlace) (es : List Entry)
    → far_all (to_end t w p) (to_end t v p) es ≡ far_all (to_end t w p) (to_end t v' p) es
unfolding far_all far_entry
moved_same t w v v' p [] = refl
moved_same t w v v' p (x ∷ es) = ap (λ l. far_entry (to_end t w p) (to_end t v p) x ∷ l) (moved_same t w v v' p es)

module _ (t : Asked) (w r v : List ℕ) (k : ℕ) (i : Option ℕ) (s : State) (es : List Entry) (u : State) (z : s.place.0 % 8 ≡ 0)
    (l : s.place.0 ≤ 8 * length w)
    (h : u.place.0 ≤ 8 * length w) (more : 0 < length r) (q : read_packet t (w ++ r) k i s ≡ go es u) where
  abbrev shared : Env
  shared = to_end t w s.place

  abbrev rest : ℕ
  rest = 8 * length (w ++ v) - s.place.0

  a : RanWhole t (w ++ r) k i s es u
  a = ran-whole t (w ++ r) k i s es u q

  -- with the other stream's rest
  other-rest : packet t (w ++ r) s.place rest i (less s) ≡ go a.others u
  other-rest = run t (w ++ r) s.place rest i (less s) a.others u
      (any-rest t (w ++ r) s.place (8 * length (w ++ r) - s.place.0) i (less s) a.others u
      (ran t (w ++ r) s.place (8 * length (w ++ r) - s.place.0) i (less s) a.others u a.behind) rest
      (λ e. omega (arith, length-append w r)))

  here : (b : List ℕ) → far shared (to_end t b s.place) same (less s) ≡ less s
  unfolding far
  here b =
      let p : s.place.0 + (s.place.0 - s.place.0) ≡ s.place.0 = omega arith in
      ap (λ n. record {
        place = bit_place n;
        room = s.room - words_per_entry;
        slots = s.slots;
        order = s.order;
        clock = s.clock;
        last = s.last;
        said = s.said;
      }) p

  between : Between shared s.place.0
  between = (omega arith, l)

  alone : Went t w (w ++ r) s.place s.place (prefix-like t w r s.place z l) rest i (packet t w s.place rest i (less s))
      a.others u
  alone = reads-alone t w (w ++ r) s.place s.place (prefix-like t w r s.place z l) rest i (less s) between a.others u
      (ap (packet t (w ++ r) s.place rest i) (here (w ++ r)) ∙ other-rest) (omega arith)

  there : packet t (w ++ v) s.place rest i (less s) ≡ go a.others u
  there =
      ap (packet t (w ++ v) s.place rest i) (sym (here (w ++ v)))
      ∙ reads-there t w (w ++ v) s.place s.place (prefix-like t w v s.place z l) rest i (less s) between alone.es alone.u
      alone.goes
      ∙ (λ j. go (entries j) (state j))
    where
      entries : far_all shared (to_end t (w ++ v) s.place) alone.es ≡ a.others
      entries = moved_same t w (w ++ v) (w ++ r) s.place alone.es ∙ sym alone.entries

      state : far shared (to_end t (w ++ v) s.place) same alone.u ≡ u
      state = unfold far in sym alone.state

  pub same-packet : read_packet t (w ++ v) k i s ≡ go es u
  same-packet = run-whole t (w ++ v) k i s es u (record { room = a.room; others = a.others; behind = there; list = a.list })
