-- The papers' numbers for answers: by them the rules refuse a LEB128 number, a string and a stamp, and by nothing else where they are 0;
-- and a record of no kind. In order: what a number says of an outcome; when a field gets so far; the numbers.
use Rattle.std.specs.Prelude.{◌≡◌, ◌↔◌, ℕ, ◌+◌, ◌-◌, ◌*◌, ◌%◌, ◌^◌, ◌≤◌, List, [], ◌∷◌, Bool, false, Some, None}
use Rattle.rules.specs.declared.BitPlace.{BitPlace}
use Rattle.rules.specs.declared.ByteLength.{ByteLength}
use Rattle.rules.specs.declared.Content.TheVariants.{Unsigned}
use Rattle.rules.specs.declared.Refusal.{Refusal}
use Rattle.rules.specs.declared.Leb.{Leb}
use Rattle.rules.specs.declared.Leb.TheVariants.{Value, Past, Large}
use Rattle.rules.specs.Limits.{words_per_entry, leb_limit, length_limit}
use Rattle.rules.specs.Place.{further}
use Rattle.rules.specs.Record.{u8, record_of}
use Rattle.rules.specs.Faults.{Ids, first_fault, record_fault}
use Rattle.rules.specs.Leb128.{leb_unsigned, leb_signed}
use Rattle.rules.specs.Clock.{clock_after}
use Rattle.rules.specs.Text.{zero_at, is_text}
use Rattle.rules.specs.Slots.{slot_at}
use Rattle.rules.specs.Class.{Role, clock, leb128, signed_leb128, string, static_string, dynamic_string}
use Rattle.rules.specs.Verdict.{stop_at, refusal_number}
use Rattle.rules.specs.Step.{State, Out, stop, go}
use Rattle.rules.specs.Field.{Env, aligned, ahead, bytes_at, role, read}
use Rattle.leb128.specs.Answer.{leb_number}
use Rattle.clock.specs.Ticked.{ticked_of, ticked_number}
use Rattle.clock.specs.Least.{Least}
use Rattle.text.specs.Number.{text_number, ended_number}
use Rattle.table_offsets.specs.Bodies.{body_of, body_number}

-- an entry is listed
abbrev pub Lists : Out → Type 0
Lists (stop [] v) = ⊥
Lists (stop (x ∷ es) v) = Unit {0}
Lists (go [] s) = ⊥
Lists (go (x ∷ es) s) = Unit {0}

-- refused by a number at a place, with no entry
pub record RefusedBy (n : ℕ) (p : BitPlace) (o : Out) : Type 0 where
  pub why : Refusal
  pub number : refusal_number why ≡ n
  pub stopped : o ≡ stop [] (stop_at why p)

-- what a number says of the outcome of a field or of a role: 0, that its entry is listed; any other, that it is refused at a place by
-- this number
pub record ByNumber (n : ℕ) (p : BitPlace) (o : Out) : Type 0 where
  pub lists : n ≡ 0 → Lists o
  pub refuses : (n ≡ 0 → ⊥) → RefusedBy n p o

-- a field of kinds 21 to 27 gets as far as its bytes: there is room for its entry (40), and its alignment is within the bound (22)
pub record AtBytes (e : Env) (s : State) : Type 0 where
  pub room : words_per_entry ≤ s.room
  pub within : (aligned e 8 s).0 ≤ e.bound.0

-- and n bytes end within the bound (22)
abbrev pub BytesFit : Env → ℕ → State → Type 0
BytesFit e n s = (aligned e 8 s).0 + 8 * n ≤ e.bound.0

-- where a LEB128 number is refused: at the bound for 22, at the first bit of its tenth byte for 24 (02, 8)
unfoldable pub leb_place : Env → State → Leb → BitPlace
leb_place e s (Value v n) = s.place
leb_place e s Past = e.bound
leb_place e s Large = further (aligned e 8 s) (8 * (leb_limit - 1))

pub record Numbers : Type 0 where
  -- the numbers themselves (Refusing a stream)
  pub leb-past : leb_number Past ≡ 22
  pub leb-large : leb_number Large ≡ 24
  pub zero-never : (formed : Bool) → ended_number formed None ≡ 25
  pub no_text : (n : ByteLength) → ended_number false (Some n) ≡ 41
  pub clock-large : ticked_number None ≡ 36
  -- a LEB128 number, kinds 21 and 22
  pub leb : (e : Env) (m i : ℕ) (r : Role) (s : State) → AtBytes e s
      → let x = leb_unsigned (ahead e (aligned e 8 s)) in
      ByNumber (leb_number x) (leb_place e s x) (read e m (leb128 i r) s)
  pub signed-leb : (e : Env) (m i : ℕ) (s : State) → AtBytes e s
      → let x = leb_signed (ahead e (aligned e 8 s)) in
      ByNumber (leb_number x) (leb_place e s x) (read e m (signed_leb128 i) s)
  -- a string that a zero byte ends, kind 23: 25 where none does, and else 41 where the bytes before it are no text
  pub zero-byte : (e : Env) (m : ℕ) (s : State) → AtBytes e s
      → let x = ahead e (aligned e 8 s) in
      ByNumber (ended_number (is_text x) (zero_at x)) s.place (read e m string s)
  -- a string of n bytes, kinds 24 and 26: 41 where the bytes before its first zero byte, or all, are no text
  pub static-text : (e : Env) (m n : ℕ) (s : State) → AtBytes e s → BytesFit e n s
      → ByNumber (text_number (is_text (bytes_at e (aligned e 8 s) n))) s.place (read e m (static_string n) s)
  pub dynamic-text : (e : Env) (m i n : ℕ) (s : State) → AtBytes e s → BytesFit e n s → slot_at s.slots i ≡ Unsigned n → n ≤ length_limit
      → ByNumber (text_number (is_text (bytes_at e (aligned e 8 s) n))) s.place (read e m (dynamic_string i) s)
  -- a stamp v of l bits, where there is room for its entry
  pub stamp : (l v : ℕ) (s : State) → words_per_entry ≤ s.room
      → ByNumber (ticked_number (ticked_of (clock_after s.clock l v))) s.place (role clock l v s)
  -- "refused if it needs more than 64": just where the least value, not below the clock, that ends in the stamp's bits does
  pub too_large : (c l v n : ℕ) → Least c l (v % 2 ^ l) n → (ticked_number (ticked_of (clock_after c l v)) ≡ 36) ↔ (2 ^ 64 ≤ n)
  -- a record whose kind has no body (Refusing a table), the first one and any other
  pub kind-unknown : body_number None ≡ 2
  pub kind : (x : List ℕ) → body_of (u8 x 0) ≡ None → (short : Bool)
      → (first_fault short (record_of x) ≡ body_number None) × ((q : Ids) (m : ℕ) → record_fault short q (record_of x) m ≡ body_number None)
