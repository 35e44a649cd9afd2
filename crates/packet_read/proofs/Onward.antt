-- A packet that goes on has taken a byte or more, and ends at a whole byte of the stream: where a length is stated, the place has moved,
-- and the content reaches it (34); where none is, the packet runs to the stream's end.
use Rattle.std.specs.Prelude.{Option, None, Some}
use mathlib.Core.Path.{◌≡◌, refl, sym, ap, ◌∙◌, subst}
use mathlib.Core.Logic.{inl, inr}
use mathlib.Core.List.{List, [], ◌∷◌}
use mathlib.Core.Bool.{Bool, true, false}
use Prim.Native.Nat.{ℕ, zero, suc, ◌+◌, ◌-◌, ◌*◌, ◌%◌, ◌≤◌, ◌<◌}
use native.Mathlib.Omega.{arith}
use lib.ListN.{length}
use lib.Dec.{ltb}
use borrow.Author.Tests.{ltb-true, ltb-false}
use Rattle.rules.specs.declared.BitPlace.{BitPlace}
use Rattle.rules.specs.Limits.{words_per_entry}
use Rattle.rules.specs.Place.{further}
use Rattle.rules.specs.Class.{Class}
use Rattle.rules.specs.Entry.{entry, packet_starts, stream_class_found, lengths_settled}
use Rattle.rules.specs.Step.{State, Out, stop, go, after, ◌⨾◌, listed}
use Rattle.rules.specs.Field.{Env}
use Rattle.rules.specs.Table.{StreamClass, Asked}
use Rattle.rules.specs.Packet.{read_root, first_root, read_event, read_events, end_packet, read_content, read_packet}
use Rattle.rules.specs.Packet.{above, differs, or_else, start_packet, nothing_said}
use Rattle.laws.specs.Between.{Moved}
use Rattle.laws.proofs.Law.{Any, FitRoot, law-root}
use Rattle.laws.proofs.Triple.{Ok}
use Rattle.laws.proofs.Between.{In, At, NoMore, Held, held-law}
use Rattle.laws.proofs.Moved.{moved-kept}
use Rattle.contradictions.specs.Lengths.{contradicts}
use Rattle.packet_content.specs.Pieces.{packet_env, behind_found}
use Rattle.packet_read.specs.Pieces.{behind_header}
use Rattle.packet_events.proofs.Moving.{Onward, onward-onto, onward-after}
use Rattle.listing.proofs.Checks.{room-first}
use Rattle.listing.proofs.Marks.{due-stop, less}
use Rattle.packet_content.proofs.Lengths.{events_of, content-full, content-lengths, content-clocks, content-marked}
use Rattle.packet_read.proofs.Packeted.{behind_start, header-differs, header-full, header-unknown, header-marked}
use Rattle.packet_read.proofs.Packeted.{packet-full, packet-marked}
use Rattle.packet_content.proofs.Lengths.{Lengths, lengths}
use Rattle.packet_read.proofs.Fitted.{Positive, Fit}

-- within the frame, and moved where a length is stated
abbrev Inside : Env → State → Type 0
Inside e s = Held e (Moved e) s

root-inside : (e : Env) (m : ℕ) (c : Option Class) → FitRoot Positive Any Any c → (s : State) → Inside e s
    → Onward (Inside e) (read_root e m c s)
root-inside e m c w s h = by (read_root e m c s) ((law-root e (held-law e (moved-kept e)) m c w).at s h)
  where
    by : (o : Out) → Ok (In e) (At e) (NoMore e) (Inside e) o → Onward (Inside e) o
    by (stop es v) k = tt
    by (go es s) k = k.1

-- events end where the packet does
any : (o : Out) → Onward (λ s. Unit {0}) o
any (stop es v) = tt
any (go es s) = tt

end-at : (to : BitPlace) (n : ℕ) (s : State) → Onward (λ s. s.place ≡ to) (end_packet to n s)
unfolding end_packet listed
end-at to n s = by (ltb s.room words_per_entry) refl
  where
    by : (x : Bool) → ltb s.room words_per_entry ≡ x → Onward (λ s. s.place ≡ to) (end_packet to n s)
    by true e = subst (Onward (λ s. s.place ≡ to)) (sym (due-stop _ s (ltb-true _ _ e))) tt
    by false e = subst (Onward (λ s. s.place ≡ to)) (sym (room-first _ s (ltb-false _ _ e))) refl

events-at : (t : Asked) (c : StreamClass) (e : Env) (to : BitPlace) (left n : ℕ) (s : State)
    → Onward (λ s. s.place ≡ to) (read_events t c e to n left s)
unfolding read_events ◌⨾◌
events-at t c e to zero n s = end-at to n s
events-at t c e to (suc left) n s = by (ltb s.place.0 e.bound.0) (λ s. events-at t c e to left (n + 1) s)
  where
    by : (x : Bool) → ((s : State) → Onward (λ s. s.place ≡ to) (read_events t c e to (n + 1) left s))
        → Onward (λ s. s.place ≡ to) (elim x [
          | true ↦ after (read_event t c e n s) (read_events t c e to (n + 1) left)
          | false ↦ end_packet to n s
        ])
    by true r = onward-after (λ s. Unit {0}) _ (read_event t c e n s) _ (any (read_event t c e n s)) (λ s h. r s)
    by false r = end-at to n s

-- behind a packet that began at p
pub record Behind (b : List ℕ) (p : ℕ) (s : State) : Type 0 where
  pub on : p + 8 ≤ s.place.0
  pub whole : s.place.0 % 8 ≡ 0
  pub within : s.place.0 ≤ 8 * length b

module _ (t : Asked) (w : Fit t) (b : List ℕ) (p : BitPlace) (l : p.0 < 8 * length b) (z : p.0 % 8 ≡ 0) where
  abbrev e : Env
  e = packet_env t b p

  abbrev Ends : Out → Type 0
  Ends o = Onward (Behind b p.0) o

  abbrev total_at : State → ℕ
  total_at s = or_else s.said.total s.said.content (8 * length b - p.0)

  abbrev content_at : State → ℕ
  content_at s = or_else s.said.content s.said.total (8 * length b - p.0)

  takes : (s : State) → Inside e s → Lengths b p.0 (total_at s) (content_at s) s.place.0 → 0 < total_at s
  takes s a n = by a.kept
    where
      by : Moved e s.place.0 s.said → 0 < total_at s
      by (inl x) =
          let q : total_at s ≡ 8 * length b - p.0 = unfold or_else in
          ap (λ y. or_else y s.said.content (8 * length b - p.0)) x.0 ∙ ap (λ y. or_else None y (8 * length b - p.0)) x.1 in
          omega arith
      by (inr x) = omega (arith, n.reach, n.order, x)

  behind : (s s' : State) → Inside e s → Lengths b p.0 (total_at s) (content_at s) s.place.0 → s'.place ≡ further p (total_at s)
      → Behind b p.0 s'
  behind s s' a n q =
      let y : s'.place.0 ≡ p.0 + total_at s = ap (λ v. v.0) q in
      record {
        on = omega (arith, takes s a n, n.whole);
        whole = omega (arith, n.whole);
        within = omega (arith, n.in_stream);
      }

  onward-map : (A B : State → Type 0) (o : Out) → ((s : State) → A s → B s) → Onward A o → Onward B o
  onward-map A B (stop es v) f h = tt
  onward-map A B (go es s) f h = f s h

  content-onward : (c : StreamClass) (s : State) → Inside e s → Ends (read_content t c b p (total_at s) (content_at s) s)
  content-onward c s a = room (ltb s.room words_per_entry) refl
    where
      fine : words_per_entry ≤ s.room → contradicts (total_at s) (content_at s) p s.place (8 * length b) ≡ false
          → (x : Bool) → above s.clock s.said.ending ≡ x → Ends (read_content t c b p (total_at s) (content_at s) s)
      fine r f true h = subst Ends (sym (content-clocks t c b p (total_at s) (content_at s) s r f h)) tt
      fine r f false h = subst Ends (sym (content-marked t c b p (total_at s) (content_at s) s r f h))
          (onward-onto (Behind b p.0) (entry lengths_settled s.place (total_at s) (content_at s) 0 ∷ [])
          (events_of t c b p (total_at s) (content_at s) s (less s))
          (onward-map (λ s'. s'.place ≡ further p (total_at s)) (Behind b p.0) (events_of t c b p (total_at s) (content_at s) s (less s))
          (λ s' q. behind s s' a (lengths b p s.place (total_at s) (content_at s) f) q)
          (events-at t c (record { bytes = b; start = p; bound = further p (content_at s); uuid = t.uuid }) (further p (total_at s))
          (p.0 + content_at s - s.place.0) 0 (less s))))

      roomy : words_per_entry ≤ s.room → (x : Bool) → contradicts (total_at s) (content_at s) p s.place (8 * length b) ≡ x
          → Ends (read_content t c b p (total_at s) (content_at s) s)
      roomy r true h = subst Ends (sym (content-lengths t c b p (total_at s) (content_at s) s r h)) tt
      roomy r false h = fine r h (above s.clock s.said.ending) refl

      room : (x : Bool) → ltb s.room words_per_entry ≡ x → Ends (read_content t c b p (total_at s) (content_at s) s)
      room true h = subst Ends (sym (content-full t c b p (total_at s) (content_at s) s (ltb-true s.room words_per_entry h))) tt
      room false h = roomy (ltb-false s.room words_per_entry h) (contradicts (total_at s) (content_at s) p s.place (8 * length b)) refl

  found-onward : (c : StreamClass) → FitRoot Positive Any Any c.context → (s : State) → Inside e s → Ends (behind_found t b p c s)
  unfolding behind_found ◌⨾◌
  found-onward c f s a =
      onward-after (Inside e) _ (read_root e first_root c.context s) _ (root-inside e first_root c.context f s a)
      (λ s a. content-onward c s a)

  header-onward : (i : Option ℕ) (s : State) → Inside e s → Ends (behind_header t b p i s)
  header-onward i s a = same (differs s.said.stream i) refl
    where
      look : differs s.said.stream i ≡ false → words_per_entry ≤ s.room → (x : Option StreamClass) → t.stream s.said.stream ≡ x
          → Ends (behind_header t b p i s)
      look d r None h = subst Ends (sym (header-unknown t b p i s d r h)) tt
      look d r (Some c) h = subst Ends (sym (header-marked t b p i s d r c h))
          (onward-onto (Behind b p.0) (entry stream_class_found s.place 0 s.said.stream 0 ∷ []) (behind_found t b p c (less s))
          (found-onward c (w.context s.said.stream c h) (less s) (record { from = a.from; to = a.to; kept = a.kept })))

      room : differs s.said.stream i ≡ false → (x : Bool) → ltb s.room words_per_entry ≡ x → Ends (behind_header t b p i s)
      room d true h = subst Ends (sym (header-full t b p i s d (ltb-true s.room words_per_entry h))) tt
      room d false h = look d (ltb-false s.room words_per_entry h) (t.stream s.said.stream) refl

      same : (x : Bool) → differs s.said.stream i ≡ x → Ends (behind_header t b p i s)
      same true h = subst Ends (sym (header-differs t b p i s h)) tt
      same false h = room h (ltb s.room words_per_entry) refl

pub packet-onward : (t : Asked) → Fit t → (b : List ℕ) (k : ℕ) (i : Option ℕ) (s : State) → s.place.0 < 8 * length b → s.place.0 % 8 ≡ 0
    → Onward (Behind b s.place.0) (read_packet t b k i s)
packet-onward t w b k i s l z = room (ltb s.room words_per_entry) refl
  where
    room : (x : Bool) → ltb s.room words_per_entry ≡ x → Onward (Behind b s.place.0) (read_packet t b k i s)
    room true h = subst (Onward (Behind b s.place.0)) (sym (packet-full t b k i s (ltb-true s.room words_per_entry h))) tt
    room false h = subst (Onward (Behind b s.place.0)) (sym (packet-marked t b k i s (ltb-false s.room words_per_entry h)))
        (onward-onto (Behind b s.place.0) (entry packet_starts s.place 0 k 0 ∷ []) (behind_start t b k i s (start_packet (less s)))
        (unfold ◌⨾◌ start_packet nothing_said in
        (onward-after (Inside (packet_env t b s.place)) (Behind b s.place.0)
        (read_root (packet_env t b s.place) first_root t.header (start_packet (less s))) (behind_header t b s.place i)
        (root-inside (packet_env t b s.place) first_root t.header w.header (start_packet (less s))
        (record { from = omega arith; to = omega arith; kept = inl (refl, refl) }))
        (λ s' a. header-onward t w b s.place l z i s' a))))
