-- What is kept of the sequences that were answered, and what calls make of it.
use Rattle.std.specs.Prelude.{ℕ, ◌-◌, pos, List, [], ◌∷◌, ◌++◌, length, take, drop, map, Bool, false, ◌&&◌, ◌==◌, nat_lt, nat_le, if◌then◌else◌, Option, Some, None}
use Rattle.wire_base.specs.Lists.{changed_at}
use Rattle.wire_base.specs.Tree.{Tree}
use Rattle.wire_base.specs.declared.refusal.Refusal.{Refusal}
use Rattle.wire_base.specs.declared.refusal.Refusal.TheVariants as refusal
use Rattle.wire_base.specs.declared.text.Id.{Id}
use Rattle.wire_base.specs.declared.text.Id.TheVariants.{Number}
use Rattle.rpc_items.specs.Arguments.{most_drawn}
use Rattle.rpc_items.specs.Drawn.{with_number}
use Rattle.rpc_items.specs.Pages.{page_value}
use Rattle.enumerables.specs.declared.sequence.Sequence.{Sequence}

-- whether values of a sequence that there may be are left
abbrev pub has_left : Option Sequence → Bool
has_left (Some s) = nat_lt 0 (length s.left)
has_left None = false

-- the live token that an id is
abbrev pub named_in : Id → List Sequence → Option ℕ
named_in (Number (pos token)) sequences = if has_left (with_number token sequences) then Some token else None
named_in id sequences = None

-- the next page of a sequence: the last where no value is left behind it
abbrev pub page_of : Sequence → Tree
page_of s = page_value (nat_le (length s.left) s.page) (take s.page s.left)

-- the next page of a sequence that there may be
abbrev pub page_if : Option Sequence → Option Tree
page_if (Some s) = Some (page_of s)
page_if None = None

-- the next page of the token that there may be
abbrev pub page_at : Option ℕ → List Sequence → Option Tree
page_at (Some token) sequences = page_if (with_number token sequences)
page_at None sequences = None

-- the next page of the live token that an id is
abbrev pub page_in : Id → List Sequence → Option Tree
page_in id sequences = page_at (named_in id sequences) sequences

-- the sequence of the token that there may be becomes another
abbrev pub changed : Option ℕ → (Sequence → Sequence) → List Sequence → List Sequence
changed (Some token) change sequences = changed_at (token - 1) change sequences
changed None change sequences = sequences

-- a page goes from what is left
abbrev pub paging : Sequence → Sequence
paging s = record s { left = drop s.page s.left }

-- nothing is left
abbrev pub ending : Sequence → Sequence
ending s = record s { left = [] }

-- a page of the live token that an id is was answered
abbrev pub turned : Id → List Sequence → List Sequence
turned id sequences = changed (named_in id sequences) paging sequences

-- the live token that an id is was given up
abbrev pub given_up : Id → List Sequence → List Sequence
given_up id sequences = changed (named_in id sequences) ending sequences

-- every token has ended
abbrev pub all_ended : List Sequence → List Sequence
all_ended sequences = map ending sequences

-- a sequence is kept where it has more values than its first ones
abbrev pub with_sequence : List Tree → (page first : ℕ) → List Sequence → List Sequence
with_sequence values page first sequences = if nat_lt first (length values) then sequences ++ ((record { page = page; left = drop first values }) ∷ []) else sequences

-- why an answer with so many values is refused
abbrev pub produce_refusal : (count page first : ℕ) → List Sequence → Option Refusal
produce_refusal count page first sequences =
    if page == 0 then Some refusal.BadPage
    else if nat_lt first count && nat_le most_drawn (length sequences) then Some refusal.TooManySequences
    else None
