-- Runs of fields, by their numbers alone: what each function of this crate makes of one.
use Rattle.std.specs.Prelude.{ℕ, ◌+◌, ◌-◌, List, Bool, true, false, not, ◌&&◌, get_or, eqb}
use Rattle.field_runs.specs.declared.Run.{Run}

-- the kinds of an optional's and of a variant's record
abbrev pub optional_kind : ℕ
optional_kind = 31

abbrev pub variant_kind : ℕ
variant_kind = 32

abbrev pub run : ℕ → ℕ → ℕ → ℕ → ℕ → ℕ → ℕ → Run
run at n again more later rest forgets =
    record { next = at; todo = n; again = again; more = more; later = later; rest = rest; forgets = forgets }

-- n classes one behind the other; one class n times
unfoldable pub members_run : ℕ → ℕ → Run
members_run at n = run at n at 0 at 0 0

unfoldable pub elements_run : ℕ → ℕ → ℕ → Run
elements_run at n forgets = run at 0 at n at 0 forgets

-- what a field holds, in a run of its own: elements of one class, or members
unfoldable pub alone_run : ℕ → ℕ → Bool → ℕ → Run
alone_run at n true forgets = elements_run at n forgets
alone_run at n false forgets = members_run at n

-- slots are forgotten around its elements
unfoldable pub forgetting : Run → Bool
forgetting r = not (eqb r.forgets 0)

-- nothing comes behind the members, and no element ends with them; nothing is left at all, and no element is open
unfoldable pub free : Run → Bool
free r = eqb r.more 0 && (eqb r.rest 0 && not (forgetting r))

unfoldable pub over : Run → Bool
over r = eqb r.todo 0 && free r

-- what a first member of the kind k holds can be read in its run
unfoldable pub can_open : ℕ → Run → Bool
can_open k r = elim (eqb k optional_kind) [ true ↦ true | false ↦ free r ]

-- the first field: an element or a member, where its class stands, and how many there are of its sort
unfoldable pub element : Run → Bool
element r = eqb r.todo 0

unfoldable pub first_at : Run → ℕ
first_at r = elim (element r) [ true ↦ r.again | false ↦ r.next ]

unfoldable pub count_of : Run → ℕ
count_of r = elim (element r) [ true ↦ r.more | false ↦ r.todo ]

-- behind some fields of the first one's sort: the last one's class stands at a byte, and so many are left; s is the classes' sizes
unfoldable pub behind_run : Run → List ℕ → ℕ → ℕ → Run
behind_run r s last left =
    elim (element r) [
      | true ↦ run r.next 0 r.again left r.later r.rest r.forgets
      | false ↦ run (last + get_or s last 0) left r.again r.more r.later r.rest r.forgets
    ]

-- the first element as a member
unfoldable pub taken_run : Run → Run
taken_run r = elim (element r) [ true ↦ run r.again 1 r.again (r.more - 1) r.later r.rest r.forgets | false ↦ r ]

-- an element begins or ends whose slots are forgotten
unfoldable pub border : Run → Bool
border r = eqb r.todo 0 && forgetting r

-- behind that border: the next element as a member; and what was put off, where nothing else is left
unfoldable pub forward_run : Run → Run
forward_run r = elim (eqb (count_of r) 0) [ true ↦ members_run r.later r.rest | false ↦ elim (forgetting r) [ true ↦ taken_run r | false ↦ r ] ]

-- parts in the place of the first member
unfoldable pub opened_run : Run → ℕ → ℕ → Run
opened_run r from n = run from (r.todo - 1 + n) r.again r.more r.later r.rest r.forgets

-- the class at a byte, n times, in front of what is behind the first member; its elements, of an array
unfoldable pub put_off_run : Run → List ℕ → ℕ → ℕ → ℕ → Run
put_off_run r s at n forgets = run at 0 at n (r.next + get_or s r.next 0) (r.todo - 1) forgets

-- by the first member's kind, and whether it holds elements
unfoldable pub into_run : ℕ → Run → List ℕ → ℕ → ℕ → Bool → ℕ → Run
into_run k r s from n true forgets = put_off_run r s from n forgets
into_run k r s from n false forgets = elim (eqb k variant_kind) [ true ↦ put_off_run r s from 1 0 | false ↦ opened_run r from n ]
