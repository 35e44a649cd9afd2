-- A lent list that is written from the front, part by part: what stands listed, and what is still to be done.
--
-- Part                     of an outcome so many words stand, and a step is still to be done
-- part-start               in front of the first word
-- lent, merged, lent-room  the part of a list that is lent on; the list with it back in its place; how long it is
-- Listed, none-listed,     entries stand in a list: none yet; one more; and it is as long as it was
--   one_more, listed-length
-- part_length, part_room   the list is as long as it was; what is left of it
-- back-room                what came back and what stood before have room together
-- part_step, part-stop     a call went on, and the next step is left; or it stopped, and that is the outcome
-- part-last-on, -stopped   the same of the last call
-- part_end                 nothing is left
use Rattle.std.specs.Prelude.{Ok, Err, Result, ⊤}
use mathlib.Core.Path.{◌≡◌, refl, ap, sym, ◌∙◌}
use mathlib.Core.List.{List, [], ◌∷◌, ◌++◌, append_assoc, append-nil}
use Prim.Native.Nat.{ℕ, ◌+◌, ◌-◌, ◌*◌, ◌≤◌}
use native.Mathlib.Omega.{arith}
use lib.ListN.{length, take, drop, length-append, length-drop, drop_of_length-le}
use lib.Seq.{take_at, drop_at, drop-drop, take_all}
use Rattle.rules.specs.declared.Entry.{Entry}
use Rattle.rules.specs.declared.Stop.{Stop}
use Rattle.rules.specs.Limits.{words_per_entry}
use Rattle.rules.specs.Slots.{Slots}
use Rattle.rules.specs.Entry.{words}
use Rattle.rules.specs.Step.{Out, stop, go, Step, onto, after, ◌⨾◌}
use Rattle.facts.proofs.Steps.{onto-nil, onto-onto}
use Rattle.facts.proofs.Lists.{length-words, words_append}
use Rattle.listing.specs.declared.Progress.{Progress}
use Rattle.listing.specs.Did.{Did, full, out_of}

-- of the outcome o, `used` words stand in ws, which was ws₀, and m is to be done at st and l
pub record Part (o : Out) (m : Step) (ws₀ ws : List ℕ) (used : ℕ) (st : Progress) (l : Slots) : Type 0 where
  pub listed : List Entry
  pub list : ws ≡ words listed ++ drop used ws₀
  pub counted : used ≡ words_per_entry * length listed
  pub room : used ≤ length ws₀
  pub rest : o ≡ onto listed (m (full st l (length ws₀ - used)))

pub part-start : (m : Step) (ws : List ℕ) (st : Progress) (l : Slots) → Part (m (full st l (length ws))) m ws ws 0 st l
unfolding words
part-start m ws st l =
    let all : length ws - 0 ≡ length ws = omega arith in
    record { listed = []; list = refl; counted = refl; room = omega arith; rest = rw (all) (sym (onto-nil _)) }

-- the part of ws that is lent from u on, and ws with ys in its place
abbrev pub lent : ℕ → List ℕ → List ℕ
lent u ws = take (length ws - u) (drop u ws)

abbrev pub merged : ℕ → List ℕ → List ℕ → List ℕ
merged u ws ys = take u ws ++ (ys ++ drop (length ws - u) (drop u ws))

lent_is : (u : ℕ) (ws : List ℕ) → lent u ws ≡ drop u ws
lent_is u ws = take_all (length ws - u) (drop u ws) (omega (arith, length-drop u ws))

pub lent-room : (u : ℕ) (ws : List ℕ) → length (lent u ws) ≡ length ws - u
lent-room u ws = ap length (lent_is u ws) ∙ length-drop u ws

-- a part that was lent from u on, and has come back with U in front
back : (W U ws₀ ws ys : List ℕ) (u n k : ℕ) → ws ≡ W ++ drop u ws₀ → u ≡ length W → ys ≡ U ++ drop n (drop u ws) → length ws ≤ u + k
    → take u ws ++ (ys ++ drop k (drop u ws)) ≡ (W ++ U) ++ drop (u + n) ws₀
back W U ws₀ ws ys u n k e w y h =
    let t : take u ws ≡ W = rw e (take_at W (drop u ws₀) u (sym w)) in
    let d : drop u ws ≡ drop u ws₀ = rw e (drop_at W (drop u ws₀) u (sym w)) in
    let z : drop k (drop u ws) ≡ [] = drop_of_length-le (drop u ws) {i = k} (omega (arith, length-drop u ws)) in
    rw (z, t, y, d, drop-drop, append-nil, append_assoc)

-- entries stand in ws, which was ws₀, and take `used` words
pub record Listed (es : List Entry) (ws₀ ws : List ℕ) (used : ℕ) : Type 0 where
  pub list : ws ≡ words es ++ drop used ws₀
  pub counted : used ≡ words_per_entry * length es
  pub room : used ≤ length ws₀

pub none-listed : (ws : List ℕ) → Listed [] ws ws 0
unfolding words
none-listed ws = record { list = refl; counted = refl; room = omega arith }

module _ {es : List Entry} {ws₀ ws : List ℕ} {used : ℕ} (h : Listed es ws₀ ws used) where
  pub listed-length : length ws ≡ length ws₀
  listed-length =
      let long = length-append (words es) (drop used ws₀) in
      omega (arith, ap length h.list, long, length-drop used ws₀, length-words es, h.counted, h.room)

  -- one more was written into what is lent behind them
  pub one_more : (e : Entry) {ys : List ℕ} → used + words_per_entry ≤ length ws₀ → ys ≡ words (e ∷ []) ++ drop words_per_entry (lent used ws)
      → Listed (es ++ (e ∷ [])) ws₀ (merged used ws ys) (used + words_per_entry)
  one_more e room is = record {
    list =
        let size = h.counted ∙ sym (length-words es) in
        let here = rw (lent_is used ws) at is in
        rw (words_append)
        (back (words es) (words (e ∷ [])) ws₀ ws _ used words_per_entry (length ws - used) h.list size here (omega arith));
    counted = omega (arith, h.counted, length-append es (e ∷ []));
    room = room;
  }

module _ {o : Out} {m : Step} {ws₀ ws : List ℕ} {used : ℕ} {st : Progress} {l : Slots} (p : Part o m ws₀ ws used st l) where
  size : used ≡ length (words p.listed)
  size = p.counted ∙ sym (length-words p.listed)

  pub part_length : length ws ≡ length ws₀
  part_length = listed-length record { list = p.list; counted = p.counted; room = p.room }

  pub part_room : length (drop used ws) ≡ length ws₀ - used
  part_room = omega (arith, length-drop used ws, part_length)

outcome-on : (es : List Entry) (went : Result ⊤ Stop) (st : Progress) (l : Slots) (room left : ℕ) → went ≡ Ok tt → room ≡ left
    → out_of es went st l room ≡ go es (full st l left)
unfolding out_of
outcome-on es went st l room left e h = rw (e, h) refl

outcome-stopped : (es : List Entry) (went : Result ⊤ Stop) (st : Progress) (l : Slots) (room : ℕ) (v : Stop) → went ≡ Err v
    → out_of es went st l room ≡ stop es v
unfolding out_of
outcome-stopped es went st l room v e = rw (e) refl

-- a call of f was lent the list from `used` on, and the part came back as ys
module _ (f : Step) {o : Out} {g : Step} {ws₀ ws : List ℕ} {used : ℕ} {st : Progress} {l : Slots} (p : Part o g ws₀ ws used st l)
    {went : Result ⊤ Stop} {n : ℕ} {st' : Progress} {l' : Slots} {ys : List ℕ}
    (d : Did (f (full st l (length (lent used ws)))) st went n st' l' (lent used ws) ys) where
  at_room : Did (f (full st l (length ws₀ - used))) st went n st' l' (drop used ws) ys
  at_room = rw (lent_is used ws, part_room p) at d

  back-list : merged used ws ys ≡ words (p.listed ++ at_room.listed) ++ drop (used + n) ws₀
  back-list = rw (words_append)
      (back (words p.listed) (words at_room.listed) ws₀ ws ys used n (length ws - used) p.list (size p) at_room.list (omega arith))

  back-counted : used + n ≡ words_per_entry * length (p.listed ++ at_room.listed)
  back-counted = omega (arith, length-append p.listed at_room.listed, at_room.counted, p.counted)

  pub back-room : used + n ≤ length ws₀
  back-room = omega (arith, at_room.room, part_room p, p.room)

  out-on : went ≡ Ok tt → f (full st l (length ws₀ - used)) ≡ go at_room.listed (full st' l' (length ws₀ - (used + n)))
  out-on e = at_room.out ∙ outcome-on at_room.listed went st' l' _ _ e (omega (arith, part_room p))

  out-stopped : (v : Stop) → went ≡ Err v → f (full st l (length ws₀ - used)) ≡ stop at_room.listed v
  out-stopped v e = at_room.out ∙ outcome-stopped at_room.listed went st' l' _ v e

module _ (f g : Step) {o : Out} {ws₀ ws : List ℕ} {used : ℕ} {st : Progress} {l : Slots} (p : Part o (f ⨾ g) ws₀ ws used st l)
    {went : Result ⊤ Stop} {n : ℕ} {st' : Progress} {l' : Slots} {ys : List ℕ}
    (d : Did (f (full st l (length (lent used ws)))) st went n st' l' (lent used ws) ys) where
  -- f went on, and g is left
  pub part_step : went ≡ Ok tt → Part o g ws₀ (merged used ws ys) (used + n) st' l'
  unfolding ◌⨾◌ after
  part_step e = record {
    listed = p.listed ++ (at_room f p d).listed;
    list = back-list f p d;
    counted = back-counted f p d;
    room = back-room f p d;
    rest = p.rest ∙ ap (λ x. onto p.listed (after x g)) (out-on f p d e) ∙ onto-onto p.listed (at_room f p d).listed _;
  }

  -- f stopped, and that is the outcome
  pub part-stop : (v : Stop) (came : Progress) (l'' : Slots) → went ≡ Err v → Did o came (Err v) (used + n) came l'' ws₀ (merged used ws ys)
  unfolding ◌⨾◌ after onto out_of
  part-stop v came l'' e = record {
    listed = p.listed ++ (at_room f p d).listed;
    out = p.rest ∙ ap (λ x. onto p.listed (after x g)) (out-stopped f p d v e);
    counted = back-counted f p d;
    list = back-list f p d;
    room = back-room f p d;
    kept = λ w h. refl;
  }

-- f is all that is left
module _ (f : Step) {o : Out} {ws₀ ws : List ℕ} {used : ℕ} {st : Progress} {l : Slots} (p : Part o f ws₀ ws used st l)
    {went : Result ⊤ Stop} {n : ℕ} {st' : Progress} {l' : Slots} {ys : List ℕ}
    (d : Did (f (full st l (length (lent used ws)))) st went n st' l' (lent used ws) ys) where
  pub part-last-on : (came : Progress) → went ≡ Ok tt → Did o came (Ok tt) (used + n) st' l' ws₀ (merged used ws ys)
  unfolding onto out_of
  part-last-on came e = record {
    listed = p.listed ++ (at_room f p d).listed;
    out = p.rest ∙ ap (onto p.listed) (out-on f p d e);
    counted = back-counted f p d;
    list = back-list f p d;
    room = back-room f p d;
    kept = λ w h. let z : ◌≡◌ {A = ℕ} 0 1 = cc in absurd (omega arith);
  }

  pub part-last-stopped : (v : Stop) (came : Progress) (l'' : Slots) → went ≡ Err v
      → Did o came (Err v) (used + n) came l'' ws₀ (merged used ws ys)
  unfolding onto out_of
  part-last-stopped v came l'' e = record {
    listed = p.listed ++ (at_room f p d).listed;
    out = p.rest ∙ ap (onto p.listed) (out-stopped f p d v e);
    counted = back-counted f p d;
    list = back-list f p d;
    room = back-room f p d;
    kept = λ w h. refl;
  }

-- nothing is left
pub part_end : {o : Out} {m : Step} {ws₀ ws : List ℕ} {used : ℕ} {st : Progress} {l : Slots} (p : Part o m ws₀ ws used st l) (came : Progress)
    → ((s : _) → m s ≡ go [] s) → Did o came (Ok tt) used st l ws₀ ws
unfolding onto out_of
part_end p came e = record {
  listed = p.listed;
  out = p.rest ∙ ap (onto p.listed) (e _) ∙ ap (λ x. go x _) (append-nil p.listed);
  counted = p.counted;
  list = p.list;
  room = p.room;
  kept = λ w h. let z : ◌≡◌ {A = ℕ} 0 1 = cc in absurd (omega arith);
}
