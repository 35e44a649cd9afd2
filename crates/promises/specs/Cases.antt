-- Small tables and streams at the places where a builder goes wrong, as one statement: document 01's "Errors a builder falls into", and
-- steps where two numbers lie close together. A table is written record by record.
use Rattle.std.specs.Prelude.{◌≡◌, ℕ, List, [], ◌∷◌, ◌++◌, map, false, replicate, None, Some}
use Rattle.rules.specs.declared.Order.TheVariants.{Little}
use Rattle.rules.specs.declared.Entry.{Entry}
use Rattle.rules.specs.declared.Report.{Report}
use Rattle.rules.specs.Class.{Class, no_role, unsigned_int, fixed, dynamic_blob as blob_of, structure as structure_of, no_member, member}
use Rattle.rules.specs.Class.{static_array as static_of, dynamic_array as dynamic_of}
use Rattle.rules.specs.Table.{Table, asked}
use Rattle.rules.specs.Parse.{checked, checked_number, checked_byte}
use Rattle.rules.specs.Read.{read_stream, read_all, result_of}
use Rattle.promises.specs.Figures.{stream1, listed}

-- Records

abbrev pub bytes8 : ℕ → List ℕ
bytes8 n = n ∷ replicate 7 0

abbrev pub preamble : List ℕ
preamble = 1 ∷ 2 ∷ []

-- with no UUID
abbrev pub trace_class : List ℕ
trace_class = 2 ∷ replicate 17 0

abbrev pub clock_class : ℕ → List ℕ
clock_class id = 3 ∷ id ∷ bytes8 1

abbrev pub stream_class : ℕ → ℕ → List ℕ
stream_class id clock = 4 ∷ (bytes8 id ++ (clock ∷ []))

abbrev pub event_class : ℕ → ℕ → List ℕ
event_class stream id = 5 ∷ (bytes8 stream ++ bytes8 id)

abbrev pub root : ℕ → List ℕ
root n = 6 ∷ n ∷ []

abbrev pub boolean : ℕ → List ℕ
boolean slot = 17 ∷ 8 ∷ 0 ∷ 0 ∷ slot ∷ []

-- bits, order, align, slot, role
abbrev pub unsigned : ℕ → ℕ → ℕ → ℕ → ℕ → List ℕ
unsigned n o a i r = 18 ∷ n ∷ o ∷ a ∷ i ∷ r ∷ []

-- eight bits at any place, with a role or a slot
abbrev pub plain : ℕ → ℕ → List ℕ
plain slot role = unsigned 8 0 0 slot role

abbrev pub signed : ℕ → List ℕ
signed slot = 19 ∷ 8 ∷ 0 ∷ 0 ∷ slot ∷ []

abbrev pub leb128 : List ℕ
leb128 = 21 ∷ 255 ∷ 0 ∷ []

-- with a slot, unsigned and signed
abbrev pub leb_in : ℕ → List ℕ
leb_in slot = 21 ∷ slot ∷ 0 ∷ []

abbrev pub signed_leb_in : ℕ → List ℕ
signed_leb_in slot = 22 ∷ slot ∷ []

abbrev pub string : List ℕ
string = 23 ∷ []

abbrev pub static_string : ℕ → List ℕ
static_string n = 24 ∷ n ∷ 0 ∷ []

abbrev pub dynamic_string : ℕ → List ℕ
dynamic_string slot = 26 ∷ slot ∷ []

abbrev pub static_blob : ℕ → List ℕ
static_blob n = 25 ∷ n ∷ 0 ∷ 0 ∷ []

abbrev pub dynamic_blob : ℕ → List ℕ
dynamic_blob slot = 27 ∷ slot ∷ []

abbrev pub structure : ℕ → List ℕ
structure n = 28 ∷ n ∷ 0 ∷ []

abbrev pub static_array : ℕ → List ℕ
static_array n = 29 ∷ n ∷ 0 ∷ 0 ∷ []

abbrev pub dynamic_array : ℕ → List ℕ
dynamic_array slot = 30 ∷ slot ∷ 0 ∷ []

abbrev pub optional : ℕ → ℕ → List ℕ
optional slot ranges = 31 ∷ slot ∷ ranges ∷ []

abbrev pub variant : ℕ → ℕ → List ℕ
variant slot options = 32 ∷ slot ∷ options ∷ []

abbrev pub range : ℕ → ℕ → List ℕ
range low high = 33 ∷ 0 ∷ (bytes8 low ++ bytes8 high)

abbrev pub option : ℕ → List ℕ
option ranges = 34 ∷ ranges ∷ []

-- Tables

-- one stream class with no roots, one event class with a payload
abbrev pub payload : List ℕ → List ℕ
payload c = preamble ++ stream_class 0 255 ++ event_class 0 0 ++ root 5 ++ c

-- a field behind one of four bits; the same behind a length in slot 16
abbrev pub behind_four : List ℕ → List ℕ
behind_four c = payload (structure 2 ++ unsigned 4 0 0 255 0 ++ c)

abbrev pub behind_length : List ℕ → List ℕ
behind_length c = payload (structure 3 ++ plain 16 0 ++ unsigned 4 0 0 255 0 ++ c)

-- a variant by slot 16 of these options, behind its selector
abbrev pub chosen : ℕ → List ℕ → List ℕ
chosen n options = payload (structure 2 ++ plain 16 0 ++ variant 16 n ++ options)

-- a packet context of a total length, and events of one aligned field
abbrev pub aligned16 : List ℕ
aligned16 =
    preamble ++ stream_class 0 255 ++ root 1 ++ structure 1 ++ plain 255 5 ++ event_class 0 0 ++ root 5 ++ structure 1 ++ unsigned 8 0 4 255 0

-- an event header that says the class's id; event classes 0 and 2
abbrev pub numbered : List ℕ
numbered =
    preamble ++ stream_class 0 255 ++ root 2 ++ structure 1 ++ plain 255 11
    ++ event_class 0 0 ++ root 5 ++ structure 0 ++ event_class 0 2 ++ root 5 ++ structure 0

-- a packet context of a total length, an event header with a stamp of eight bits, no payload
abbrev pub stamped : List ℕ
stamped =
    preamble ++ clock_class 1 ++ stream_class 0 1 ++ root 1 ++ structure 1 ++ plain 255 5 ++ root 2 ++ structure 1 ++ plain 255 7 ++ event_class 0 0

-- a packet context of total and content lengths
abbrev pub measured : List ℕ
measured = preamble ++ stream_class 0 255 ++ root 1 ++ structure 2 ++ plain 255 5 ++ plain 255 6

-- the same, and events of one field; a packet of 24 bits whose content has 20, of which the context takes 16
abbrev pub content20 : List ℕ → List ℕ
content20 c = measured ++ event_class 0 0 ++ root 5 ++ structure 1 ++ c

abbrev pub in_content20 : List ℕ
in_content20 = 24 ∷ 20 ∷ 0 ∷ 0 ∷ []

-- the first event sets slot 16, and the second one only reads it
abbrev pub remembered : List ℕ
remembered =
    preamble ++ stream_class 0 255 ++ root 2 ++ structure 1 ++ plain 255 11
    ++ event_class 0 0 ++ root 5 ++ structure 1 ++ plain 16 0 ++ event_class 0 1 ++ root 5 ++ structure 1 ++ dynamic_blob 16

-- a common context whose last member is an array: n elements, each a length in slot 16 and so many bytes; and a payload
abbrev pub repeated : ℕ → List ℕ → List ℕ
repeated n c =
    preamble ++ stream_class 0 255 ++ root 3 ++ structure 1 ++ static_array n ++ structure 2 ++ plain 16 0 ++ dynamic_array 16 ++ plain 255 0
    ++ event_class 0 0 ++ root 5 ++ c

-- two elements: a flag in slot 16; where it holds, a length in slot 17; and so many bytes
abbrev pub elements : List ℕ
elements =
    payload (structure 1 ++ static_array 2 ++ structure 3 ++ boolean 16 ++ optional 16 0 ++ plain 17 0 ++ dynamic_blob 17)

-- as many elements of the class c as slot 16 says, and then as many bytes as slot 17 says
abbrev pub behind : List ℕ → List ℕ
behind c = payload (structure 3 ++ plain 16 0 ++ dynamic_array 16 ++ c ++ dynamic_blob 17)

-- slot 16 is set by the first member and, in an array's element, by the class c
abbrev pub twice : List ℕ → List ℕ
twice c = structure 2 ++ plain 16 0 ++ static_array 1 ++ c

-- every root, each a structure of one byte; and of a stream class and an event class the last root alone
abbrev pub one : ℕ → List ℕ
one n = root n ++ structure 1 ++ plain 255 0

abbrev pub all_roots : List ℕ
all_roots = preamble ++ trace_class ++ one 0 ++ stream_class 0 255 ++ one 1 ++ one 2 ++ one 3 ++ event_class 0 0 ++ one 4 ++ one 5

abbrev pub last_roots : List ℕ
last_roots = preamble ++ stream_class 0 255 ++ one 3 ++ event_class 0 0 ++ one 5

-- a variant by slot 16 of two options with a range each, and an optional by slot 16 with two ranges, each between its selector and a byte
abbrev pub between_options : List ℕ
between_options =
    payload (structure 3 ++ plain 16 0 ++ variant 16 2 ++ option 1 ++ range 0 3 ++ string ++ option 1 ++ range 5 9 ++ plain 255 0
    ++ plain 255 0)

abbrev pub between_ranges : List ℕ
between_ranges = payload (structure 3 ++ plain 16 0 ++ optional 16 2 ++ range 1 1 ++ range 3 4 ++ plain 255 0 ++ plain 255 0)

-- an optional by a flag, of a structure; an array of two structures; one of as many bytes as slot 16 says; each before a byte
abbrev pub between_flags : List ℕ
between_flags = payload (structure 3 ++ boolean 16 ++ optional 16 0 ++ structure 1 ++ plain 255 0 ++ plain 255 0)

abbrev pub before_elements : List ℕ
before_elements = payload (structure 2 ++ static_array 2 ++ structure 1 ++ plain 255 0 ++ plain 255 0)

abbrev pub between_elements : List ℕ
between_elements = payload (structure 3 ++ plain 16 0 ++ dynamic_array 16 ++ plain 255 0 ++ plain 255 0)

-- as a tree that no table gives, since slot 16 has two homes in it: the common context sets it, and an element reads it before it sets it
abbrev pub early : (Class → Class) → Table
early array =
    let length : Class = fixed unsigned_int 8 Little 0 16 no_role in
    let element : Class = structure_of 0 (member (blob_of 16) (member length no_member)) in
    record {
      uuid = [];
      header = None;
      streams = record { id = 0; timed = false; context = None; header = None; common = Some (structure_of 0 (member length no_member)) } ∷ [];
      events = record { stream = 0; id = 0; specific = None; payload = Some (structure_of 0 (member (array element) no_member)) } ∷ [];
    }

-- Answers

abbrev pub answer : List ℕ → List ℕ → Report
answer table stream = result_of (read_all table stream 500)

abbrev pub result : ℕ → ℕ → ℕ → ℕ → ℕ → Report
result n k p i j = record { number = n; entries = k; place = p; first = i; second = j }

abbrev pub number : List ℕ → ℕ
number table = checked_number (checked table)

-- the fifth words of a list
abbrev pub fifths : List ℕ → List ℕ → List ℕ
fifths table stream = map (λ (e : Entry). e.number) (read_all table stream 500).entries

abbrev pub byte : List ℕ → ℕ
byte table = (checked_byte (checked table)).0

-- the number of an answer, where the stream is a string of these bytes and its zero byte
abbrev pub of_string : List ℕ → ℕ
of_string text = (answer (payload (structure 1 ++ string)) (text ++ (0 ∷ []))).number

pub record Cases : Type 0 where
  -- "Aligning from the stream's start, not the packet's.": four events in each of two packets of nine bytes
  pub from-packet : answer aligned16 (72 ∷ (replicate 8 0 ++ (72 ∷ replicate 8 0))) ≡ result 0 44 144 0 0
  -- "Taking the nearest event class when the id isn't there."
  pub exact-class : answer numbered (0 ∷ 2 ∷ 1 ∷ []) ≡ result 37 16 24 0 1
  -- "Looping for ever on an event of no bits."
  pub no_bits : answer (payload (structure 0)) (0 ∷ []) ≡ result 38 6 0 0 0
  -- "Refusing ranges that overlap within one option."
  pub overlap : number (chosen 1 (option 2 ++ range 0 9 ++ range 5 12 ++ plain 255 0)) ≡ 0
  pub meeting : number (chosen 2 (option 1 ++ range 0 9 ++ plain 255 0 ++ option 1 ++ range 9 12 ++ plain 255 0)) ≡ 13
  -- 40 comes before the lookup that an entry waits for (33)
  pub room-none : result_of (read_all preamble stream1 4) ≡ result 40 0 0 0 0
  pub room-first : result_of (read_all preamble stream1 9) ≡ result 40 1 0 0 0
  pub unknown-class : result_of (read_all preamble stream1 10) ≡ result 33 1 0 0 0
  -- a slot that is unset, and of the wrong sort: as a length, as a flag, as a number
  pub unset : answer (payload (structure 1 ++ dynamic_blob 16)) (0 ∷ []) ≡ result 26 6 0 0 0
  pub signed-length : answer (payload (structure 2 ++ signed 16 ++ dynamic_blob 16)) (0 ∷ []) ≡ result 27 7 8 0 0
  pub number-flag : answer (payload (structure 2 ++ plain 16 0 ++ optional 16 0 ++ plain 255 0)) (0 ∷ []) ≡ result 27 7 8 0 0
  pub flag-number : answer (payload (structure 2 ++ boolean 16 ++ optional 16 1 ++ range 0 1 ++ plain 255 0)) (0 ∷ []) ≡ result 27 7 8 0 0
  -- slots 16 to 63 are unset when an event starts
  pub forgotten : answer remembered (0 ∷ 3 ∷ 1 ∷ 0 ∷ []) ≡ result 26 14 24 0 0
  -- an optional that is there, and one that is not
  pub absent : (read_all (payload (structure 2 ++ boolean 16 ++ optional 16 0 ++ plain 255 0)) (0 ∷ []) 500).entries
      ≡ listed 1 0 0 0 0 ∷ listed 2 0 0 0 0 ∷ listed 3 0 8 8 0 ∷ listed 4 0 0 0 0 ∷ listed 5 0 0 0 0
      ∷ listed 28 0 0 2 2 ∷ listed 17 0 8 0 3 ∷ listed 31 8 0 0 4 ∷ listed 7 8 0 1 0 ∷ []
  pub present : (read_all (payload (structure 2 ++ boolean 16 ++ optional 16 0 ++ plain 255 0)) (2 ∷ 7 ∷ []) 500).entries
      ≡ listed 1 0 0 0 0 ∷ listed 2 0 0 0 0 ∷ listed 3 0 16 16 0 ∷ listed 4 0 0 0 0 ∷ listed 5 0 0 0 0
      ∷ listed 28 0 0 2 2 ∷ listed 17 0 8 1 3 ∷ listed 31 8 0 1 4 ∷ listed 18 8 8 7 5
      ∷ listed 7 16 0 1 0 ∷ []
  -- the order changes in the middle of a byte
  pub turned : answer (payload (structure 2 ++ unsigned 4 0 0 255 0 ++ unsigned 4 1 0 255 0)) (0 ∷ []) ≡ result 23 7 4 0 0
  -- a selector in the second option, and in none
  pub second-option : answer (chosen 2 (option 1 ++ range 0 3 ++ string ++ option 1 ++ range 5 9 ++ plain 255 0)) (5 ∷ 1 ∷ []) ≡ result 0 10 16 0 0
  pub no-option : answer (chosen 2 (option 1 ++ range 0 3 ++ string ++ option 1 ++ range 5 9 ++ plain 255 0)) (4 ∷ 1 ∷ []) ≡ result 29 7 8 0 0
  -- a string with no zero byte
  pub endless : answer (payload (structure 1 ++ string)) (97 ∷ 98 ∷ []) ≡ result 25 6 0 0 0
  -- nine bytes that go on and no tenth; ten that go on; ten whose number needs 65 bits; and the same behind a field
  pub leb-cut : answer (payload (structure 1 ++ leb128)) (replicate 9 128) ≡ result 22 6 72 0 0
  pub leb_long : answer (payload (structure 1 ++ leb128)) (replicate 10 128) ≡ result 24 6 72 0 0
  pub leb-large : answer (payload (structure 1 ++ leb128)) (replicate 9 128 ++ (2 ∷ [])) ≡ result 24 6 72 0 0
  pub leb-behind : answer (payload (structure 2 ++ unsigned 4 0 0 255 0 ++ leb128)) (0 ∷ (replicate 9 128 ++ (2 ∷ []))) ≡ result 24 7 80 0 0
  pub signed-leb-behind : answer (payload (structure 2 ++ unsigned 4 0 0 255 0 ++ signed_leb_in 16)) (0 ∷ (replicate 9 128 ++ (1 ∷ []))) ≡ result 24 7 80 0 0
  -- "For 22 the place becomes the bound that would be crossed." (02, 8): the stream's end in a context; the content's end, in bits, behind it. A
  -- field's bits and its alignment; a structure that cannot be entered; whole bytes: of a BLOB, of a text, of a number in LEB128
  pub bound-stream : answer (preamble ++ stream_class 0 255 ++ root 1 ++ structure 1 ++ unsigned 16 0 0 255 5) (16 ∷ []) ≡ result 22 3 8 0 0
  pub bound-bits : answer (content20 (unsigned 5 0 0 255 0)) in_content20 ≡ result 22 9 20 0 0
  pub bound-align : answer (content20 (structure 2 ++ unsigned 1 0 0 255 0 ++ unsigned 1 0 3 255 0)) in_content20 ≡ result 22 11 20 0 0
  pub bound-structure : answer (content20 (unsigned 1 0 5 255 0)) in_content20 ≡ result 22 8 20 0 0
  pub bound-array : answer (content20 (structure 2 ++ unsigned 1 0 0 255 0 ++ static_array 1 ++ unsigned 1 0 3 255 0)) in_content20 ≡ result 22 11 20 0 0
  pub bound-blob : answer (content20 (static_blob 1)) in_content20 ≡ result 22 9 20 0 0
  pub bound-text : answer (content20 (static_string 1)) in_content20 ≡ result 22 9 20 0 0
  pub bound-leb : answer (content20 leb128) in_content20 ≡ result 22 9 20 0 0
  pub bound-string : answer (content20 (structure 2 ++ unsigned 1 0 0 255 0 ++ string)) in_content20 ≡ result 22 11 20 0 0
  -- no zero byte is 25 at the field, before its alignment
  pub endless-behind : answer (payload (structure 2 ++ unsigned 4 0 0 255 0 ++ string)) (0 ∷ 97 ∷ []) ≡ result 25 7 4 0 0
  -- "must be well-formed UTF-8 as RFC 3629 says; otherwise refuse with a new number 41 at the field" (02, 1): before its alignment
  pub no-string : answer (behind_four string) (0 ∷ 0xFF ∷ 0 ∷ []) ≡ result 41 7 4 0 0
  pub no-static-string : answer (behind_four (static_string 2)) (0 ∷ 97 ∷ 0xFF ∷ []) ≡ result 41 7 4 0 0
  pub no-dynamic-string : answer (behind_length (dynamic_string 16)) (2 ∷ 0 ∷ 97 ∷ 0xFF ∷ []) ≡ result 41 8 12 0 0
  -- text is listed with the count of its bytes, not of its characters
  pub some-text : (read_all (payload (structure 1 ++ string)) (0xC3 ∷ 0xA9 ∷ 0 ∷ []) 500).entries
      ≡ listed 1 0 0 0 0 ∷ listed 2 0 0 0 0 ∷ listed 3 0 24 24 0 ∷ listed 4 0 0 0 0 ∷ listed 5 0 0 0 0
      ∷ listed 28 0 0 1 2 ∷ listed 23 0 24 2 3
      ∷ listed 7 24 0 1 0 ∷ []
  -- the borders of its rows: one byte, and none that only follows; two
  pub text-one : of_string (1 ∷ 0x7F ∷ []) ≡ 0
  pub text-follows : of_string (0x80 ∷ []) ≡ 41
  pub text-C1 : of_string (0xC1 ∷ 0xBF ∷ []) ≡ 41
  pub text-C2-7F : of_string (0xC2 ∷ 0x7F ∷ []) ≡ 41
  pub text-C2-80 : of_string (0xC2 ∷ 0x80 ∷ []) ≡ 0
  pub text-C2-BF : of_string (0xC2 ∷ 0xBF ∷ []) ≡ 0
  pub text-C2-C0 : of_string (0xC2 ∷ 0xC0 ∷ []) ≡ 41
  pub text-DF : of_string (0xDF ∷ 0xBF ∷ []) ≡ 0
  -- three: nothing overlong behind E0, no surrogate behind ED; FEFF and FFFF are characters
  pub text-E0-9F : of_string (0xE0 ∷ 0x9F ∷ 0xBF ∷ []) ≡ 41
  pub text-E0-A0 : of_string (0xE0 ∷ 0xA0 ∷ 0x80 ∷ []) ≡ 0
  pub text-third : of_string (0xE1 ∷ 0x80 ∷ 0xC0 ∷ []) ≡ 41
  pub text-ED-9F : of_string (0xED ∷ 0x9F ∷ 0xBF ∷ []) ≡ 0
  pub text-ED-A0 : of_string (0xED ∷ 0xA0 ∷ 0x80 ∷ []) ≡ 41
  pub text-EE : of_string (0xEE ∷ 0x80 ∷ 0x80 ∷ []) ≡ 0
  pub text-FEFF : of_string (0xEF ∷ 0xBB ∷ 0xBF ∷ []) ≡ 0
  pub text-FFFF : of_string (0xEF ∷ 0xBF ∷ 0xBF ∷ []) ≡ 0
  -- four: nothing overlong behind F0, nothing above 10FFFF behind F4 and above it
  pub text-F0-8F : of_string (0xF0 ∷ 0x8F ∷ 0xBF ∷ 0xBF ∷ []) ≡ 41
  pub text-F0-90 : of_string (0xF0 ∷ 0x90 ∷ 0x80 ∷ 0x80 ∷ []) ≡ 0
  pub text-fourth : of_string (0xF1 ∷ 0x80 ∷ 0x80 ∷ 0x7F ∷ []) ≡ 41
  pub text-F4-8F : of_string (0xF4 ∷ 0x8F ∷ 0xBF ∷ 0xBF ∷ []) ≡ 0
  pub text-F4-90 : of_string (0xF4 ∷ 0x90 ∷ 0x80 ∷ 0x80 ∷ []) ≡ 41
  pub text-F5 : of_string (0xF5 ∷ 0x80 ∷ 0x80 ∷ 0x80 ∷ []) ≡ 41
  -- a character behind another; none goes on behind its end; one that the zero byte cuts, or the field's end
  pub text-next : of_string (0xC2 ∷ 0x80 ∷ 97 ∷ 0xF4 ∷ 0x8F ∷ 0xBF ∷ 0xBF ∷ []) ≡ 0
  pub text-over : of_string (0xC2 ∷ 0x80 ∷ 0x80 ∷ []) ≡ 41
  pub cut-by-zero : of_string (0xE2 ∷ 0x82 ∷ []) ≡ 41
  pub cut-by-zero-inside : answer (payload (structure 1 ++ static_string 3)) (0xC3 ∷ 0 ∷ 0xA9 ∷ []) ≡ result 41 6 0 0 0
  pub cut-by-end : answer (payload (structure 2 ++ static_string 1 ++ plain 255 0)) (0xC3 ∷ 0xA9 ∷ []) ≡ result 41 6 0 0 0
  -- bytes behind the first zero byte are free; so are BLOBs; and the empty text is one
  pub behind-zero : answer (payload (structure 1 ++ static_string 3)) (97 ∷ 0 ∷ 0xFF ∷ []) ≡ result 0 8 24 0 0
  pub behind-zero-counted : answer (payload (structure 2 ++ plain 16 0 ++ dynamic_string 16)) (3 ∷ 97 ∷ 0 ∷ 0xFF ∷ []) ≡ result 0 9 32 0 0
  pub any-blob : answer (payload (structure 1 ++ static_blob 2)) (0xFF ∷ 0xC0 ∷ []) ≡ result 0 8 16 0 0
  pub any-counted-blob : answer (payload (structure 2 ++ plain 16 0 ++ dynamic_blob 16)) (2 ∷ 0xFF ∷ 0xC0 ∷ []) ≡ result 0 9 24 0 0
  pub empty-text : of_string [] ≡ 0
  pub empty-texts : answer (payload (structure 3 ++ plain 16 0 ++ static_string 0 ++ dynamic_string 16)) (0 ∷ []) ≡ result 0 10 8 0 0
  -- "Inside a field it comes after 22 and 25.": and after all that comes before these
  pub endless-no-text : answer (behind_four string) (0 ∷ 0xFF ∷ []) ≡ result 25 7 4 0 0
  pub past-no-text : answer (behind_four (static_string 2)) (0 ∷ 0xFF ∷ []) ≡ result 22 7 16 0 0
  pub unset-no-text : answer (payload (structure 1 ++ dynamic_string 16)) (0xFF ∷ []) ≡ result 26 6 0 0 0
  pub signed-no-text : answer (payload (structure 2 ++ signed 16 ++ dynamic_string 16)) (1 ∷ 0xFF ∷ []) ≡ result 27 7 8 0 0
  pub long-no-text : answer (payload (structure 2 ++ unsigned 24 0 0 16 0 ++ dynamic_string 16)) (0 ∷ 0 ∷ 1 ∷ 0xFF ∷ []) ≡ result 28 7 24 0 0
  pub room-no-text : result_of (read_all (behind_four string) (0 ∷ 0xFF ∷ 0 ∷ []) 39) ≡ result 40 7 4 0 0
  pub room-before-text : result_of (read_all (behind_four string) (0 ∷ 0xFF ∷ 0 ∷ []) 40) ≡ result 41 7 4 0 0
  -- "the fifth is the number of the class record within its own fragment, counted from 0 at the record that opens it" (02, 7): each record
  -- counts. A fragment's roots go on, whichever are there, and each fragment starts again
  pub fifth-roots : fifths all_roots (1 ∷ 2 ∷ 3 ∷ 4 ∷ 5 ∷ 6 ∷ [])
      ≡ 0 ∷ 2 ∷ 3 ∷ 0 ∷ 2 ∷ 3 ∷ 0 ∷ 0 ∷ 5 ∷ 6 ∷ 0 ∷ 8 ∷ 9 ∷ 2 ∷ 3 ∷ 5 ∷ 6 ∷ 0 ∷ []
  pub fifth-last-roots : fifths last_roots (1 ∷ 2 ∷ []) ≡ 0 ∷ 0 ∷ 0 ∷ 0 ∷ 0 ∷ 2 ∷ 3 ∷ 2 ∷ 3 ∷ 0 ∷ []
  -- options and their ranges, also of those that are passed over; a variant's entry has its own record's number
  pub fifth-first-option : fifths between_options (0 ∷ 0 ∷ 7 ∷ []) ≡ 0 ∷ 0 ∷ 0 ∷ 0 ∷ 0 ∷ 2 ∷ 3 ∷ 4 ∷ 7 ∷ 11 ∷ 0 ∷ []
  pub fifth-second-option : fifths between_options (5 ∷ 6 ∷ 7 ∷ []) ≡ 0 ∷ 0 ∷ 0 ∷ 0 ∷ 0 ∷ 2 ∷ 3 ∷ 4 ∷ 10 ∷ 11 ∷ 0 ∷ []
  -- an optional's ranges, and its class where it is absent too; by a flag
  pub fifth-present : fifths between_ranges (3 ∷ 6 ∷ 7 ∷ []) ≡ 0 ∷ 0 ∷ 0 ∷ 0 ∷ 0 ∷ 2 ∷ 3 ∷ 4 ∷ 7 ∷ 8 ∷ 0 ∷ []
  pub fifth-absent : fifths between_ranges (0 ∷ 7 ∷ []) ≡ 0 ∷ 0 ∷ 0 ∷ 0 ∷ 0 ∷ 2 ∷ 3 ∷ 4 ∷ 8 ∷ 0 ∷ []
  pub fifth-flagged : fifths between_flags (0 ∷ 7 ∷ []) ≡ 0 ∷ 0 ∷ 0 ∷ 0 ∷ 0 ∷ 2 ∷ 3 ∷ 4 ∷ 7 ∷ 0 ∷ []
  -- each element of an array has the same number, and what is behind the array goes on
  pub fifth-elements : fifths before_elements (5 ∷ 6 ∷ 7 ∷ []) ≡ 0 ∷ 0 ∷ 0 ∷ 0 ∷ 0 ∷ 2 ∷ 3 ∷ 4 ∷ 5 ∷ 4 ∷ 5 ∷ 6 ∷ 0 ∷ []
  pub fifth-counted-elements : fifths between_elements (2 ∷ 5 ∷ 6 ∷ 7 ∷ []) ≡ 0 ∷ 0 ∷ 0 ∷ 0 ∷ 0 ∷ 2 ∷ 3 ∷ 4 ∷ 5 ∷ 5 ∷ 6 ∷ 0 ∷ []
  -- an entry 6 has 0, though it follows a field
  pub fifth-clock : fifths stamped (16 ∷ 200 ∷ []) ≡ 0 ∷ 0 ∷ 2 ∷ 3 ∷ 0 ∷ 0 ∷ 5 ∷ 6 ∷ 0 ∷ 0 ∷ 0 ∷ []
  -- content above total; a total that is no multiple of 8; a total past the stream; a content that ends before the context does
  pub content-above : answer measured (16 ∷ 24 ∷ 0 ∷ []) ≡ result 34 5 16 0 0
  pub total-odd : answer measured (20 ∷ 16 ∷ 0 ∷ []) ≡ result 34 5 16 0 0
  pub total-past : answer measured (32 ∷ 16 ∷ 0 ∷ []) ≡ result 34 5 16 0 0
  pub content-short : answer measured (16 ∷ 8 ∷ 0 ∷ []) ≡ result 34 5 16 0 0
  -- the clock starts at 0 in each packet, and an event's may not be below the last one's
  pub clock-back : answer stamped (16 ∷ 200 ∷ 16 ∷ 100 ∷ []) ≡ result 39 20 32 0 0
  -- "A location must not remember the last element" (02, 3): the second element's length is absent
  pub element-absent : answer elements (1 ∷ 1 ∷ 7 ∷ 0 ∷ []) ≡ result 26 15 32 0 0
  pub element-present : answer elements (1 ∷ 1 ∷ 7 ∷ 1 ∷ 0 ∷ []) ≡ result 0 18 40 0 0
  -- behind the last element its slots are unset, in another root of the event too
  pub behind-elements : answer (repeated 1 (structure 1 ++ dynamic_blob 16)) (1 ∷ 7 ∷ 0 ∷ []) ≡ result 26 12 16 0 0
  -- the element's own class is inside the element, whatever its kind, and so is an option
  pub behind-leaves : answer (behind (plain 17 0)) (1 ∷ 1 ∷ 7 ∷ []) ≡ result 26 9 16 0 0
  pub behind-lebs : answer (behind (leb_in 17)) (1 ∷ 1 ∷ 7 ∷ []) ≡ result 26 9 16 0 0
  pub behind-signed-lebs : answer (behind (signed_leb_in 17)) (1 ∷ 1 ∷ 7 ∷ []) ≡ result 26 9 16 0 0
  pub behind-options : answer (behind (variant 16 1 ++ option 1 ++ range 0 9 ++ plain 17 0)) (1 ∷ 1 ∷ 7 ∷ []) ≡ result 26 10 16 0 0
  -- before the first element its slots are unset
  pub before-static : result_of (read_stream (asked (early (static_of 1 0))) (1 ∷ 7 ∷ 0 ∷ []) 500) ≡ result 26 10 8 0 0
  pub before-dynamic : result_of (read_stream (asked (early (dynamic_of 16 0))) (1 ∷ 7 ∷ 0 ∷ []) 500) ≡ result 26 10 8 0 0
  -- an option is no element: its slot is kept, and has the home of what is beside the variant; so has an optional's
  pub option-kept : answer (payload (structure 4 ++ plain 16 0 ++ plain 17 0 ++ variant 16 1 ++ option 1 ++ range 0 9 ++ plain 17 0 ++ dynamic_blob 17)) (0 ∷ 0 ∷ 1 ∷ 7 ∷ [])
      ≡ result 0 12 32 0 0
  pub optional-home : number (payload (structure 3 ++ boolean 16 ++ plain 17 0 ++ optional 16 0 ++ plain 17 0)) ≡ 0
  -- "A slot is set both inside an array element and outside it": in another root; in the element itself, outside an inner array; behind a dynamic array
  pub two-homes : number (repeated 1 (structure 1 ++ plain 16 0)) ≡ 11
  pub inner-home : number (payload (structure 1 ++ static_array 1 ++ structure 2 ++ plain 16 0 ++ static_array 1 ++ plain 16 0)) ≡ 11
  pub dynamic-home : number (payload (structure 3 ++ plain 16 0 ++ dynamic_array 16 ++ plain 17 0 ++ plain 17 0)) ≡ 11
  pub one-home : number (repeated 1 (structure 1 ++ plain 17 0)) ≡ 0
  -- numbers in LEB128 set slots too
  pub leb-home : number (payload (structure 2 ++ leb_in 16 ++ static_array 1 ++ signed_leb_in 16)) ≡ 11
  pub signed-leb-home : number (payload (structure 2 ++ signed_leb_in 16 ++ static_array 1 ++ leb_in 16)) ≡ 11
  -- two arrays side by side; the header's roots with a stream class's; two event classes never meet
  pub two-arrays : number (payload (structure 2 ++ static_array 1 ++ plain 16 0 ++ static_array 1 ++ plain 16 0)) ≡ 11
  pub header-home : number (preamble ++ trace_class ++ root 0 ++ structure 1 ++ static_array 1 ++ plain 0 0 ++ stream_class 0 255 ++ root 1 ++ structure 1 ++ plain 0 0) ≡ 11
  pub event-classes : number (payload (structure 1 ++ static_array 1 ++ plain 16 0) ++ event_class 0 1 ++ root 5 ++ structure 1 ++ plain 16 0) ≡ 0
  -- at the later class of the two; and "the first record with a fault decides": before an unknown kind, behind an unknown clock
  pub later-class : byte (payload (twice (plain 16 0))) ≡ 44
  pub home-first : number (payload (twice (plain 16 0)) ++ (99 ∷ [])) ≡ 11
  pub home-behind : number (preamble ++ stream_class 0 1 ++ event_class 0 0 ++ root 5 ++ twice (plain 16 0)) ≡ 8
  -- "and there the lowest number": 11 before 12 and, at depth 9, before 14; 10 before 11
  pub home-role : number (payload (twice (plain 16 11))) ≡ 11
  pub home-deep : number (payload (twice (structure 1 ++ structure 1 ++ structure 1 ++ structure 1 ++ structure 1 ++ structure 1 ++ plain 16 0))) ≡ 11
  pub home-length : number (payload (twice (unsigned 65 0 0 16 0))) ≡ 10
