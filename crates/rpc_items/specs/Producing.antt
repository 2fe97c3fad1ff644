-- Sequences at the end that answers them.
use Rattle.std.specs.Prelude.{ℕ, ◌+◌, pos, List, [], ◌∷◌, ◌++◌, Bool, false, not, ◌&&◌, ◌||◌, is_some, if◌then◌else◌, Option, Some, None}
use Rattle.wire_base.specs.Tree.{Tree}
use Rattle.wire_base.specs.declared.text.Id.{Id}
use Rattle.wire_base.specs.declared.text.Id.TheVariants.{Number}
use Rattle.rpc_items.specs.declared.messages.Message.TheVariants.{Request, Notification}
use Rattle.rpc_items.specs.Ids.{same_id, numbered_id}
use Rattle.rpc_items.specs.declared.methods.Meaning.{Meaning}
use Rattle.rpc_items.specs.declared.methods.Meaning.TheVariants.{Turns, Aborts}
use Rattle.rpc_items.specs.Meanings.{meaning}
use Rattle.rpc_items.specs.Items.{RpcItem, Got, is_running}
use Rattle.rpc_items.specs.Produced.{Produced, produced_at}
use Rattle.rpc_items.specs.Pages.{first_values, page_after, are_left}

-- whether this meaning asks for a page of this token
abbrev pub is_turn : ℕ → Meaning → Bool
is_turn token (Turns named) = same_id named (numbered_id token)
is_turn token meaning = false

-- whether an item is a request for a page of this token
abbrev pub turns_page : ℕ → RpcItem → Bool
turns_page token (Got place (Request id method params)) = is_turn token (meaning method params)
turns_page token item = false

-- whether this meaning gives this token up
abbrev pub is_abort : ℕ → Meaning → Bool
is_abort token (Aborts named) = same_id named (numbered_id token)
is_abort token meaning = false

-- whether an item gives this token up
abbrev pub aborts : ℕ → RpcItem → Bool
aborts token (Got place (Request id method params)) = is_abort token (meaning method params)
aborts token (Got place (Notification method params)) = is_abort token (meaning method params)
aborts token item = false

-- whether the peer gave the sequence up, after it was answered
abbrev pub is_aborted : ℕ → List RpcItem → Bool
is_aborted token [] = false
is_aborted token (item ∷ items) = is_aborted token items || (is_some (produced_at token items) && aborts token item)

-- whether a sequence has values left after so many pages
abbrev pub goes_on : Option Produced → (pages : ℕ) → Bool
goes_on (Some s) pages = are_left s pages
goes_on None pages = false

-- a token lives until no value is left, the sequence is given up, or the end
abbrev pub is_open : Option Produced → (pages : ℕ) → (running aborted : Bool) → Bool
is_open s pages running aborted = goes_on s pages && running && not aborted

-- how many pages were answered
abbrev pub page_count : ℕ → List RpcItem → ℕ
page_count token [] = 0
page_count token (item ∷ items) =
    if turns_page token item && is_open (produced_at token items) (page_count token items) (is_running items) (is_aborted token items)
    then page_count token items + 1
    else page_count token items

-- whether a token lives
abbrev pub is_producing : ℕ → List RpcItem → Bool
is_producing token items = is_open (produced_at token items) (page_count token items) (is_running items) (is_aborted token items)

-- the live sequence that an id names
abbrev pub sequence_named : Id → List RpcItem → Option ℕ
sequence_named (Number (pos token)) items = if is_producing token items then Some token else None
sequence_named id items = None

-- the next page after so many, of a sequence that there may be
abbrev pub page_of : Option Produced → (pages : ℕ) → List Tree
page_of (Some s) pages = page_after s pages
page_of None pages = []

-- the values that go with the result of a sequence that there may be
abbrev pub first_of_sequence : Option Produced → List Tree
first_of_sequence (Some s) = first_values s
first_of_sequence None = []

-- all values that were answered for a token, in order: the first ones when it is drawn, then page after page
abbrev pub answered_values : ℕ → List RpcItem → List Tree
answered_values token [] = []
answered_values token (item ∷ items) =
    if is_some (produced_at token items)
    then (if turns_page token item && is_producing token items then answered_values token items ++ page_of (produced_at token items) (page_count token items) else answered_values token items)
    else first_of_sequence (produced_at token (item ∷ items))
