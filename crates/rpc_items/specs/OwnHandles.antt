-- Lives of handles that this end made.
use Rattle.std.specs.Prelude.{ℕ, List, [], ◌∷◌, Bool, true, false, not, ◌&&◌, ◌||◌, is_some, Option, Some, None}
use Rattle.rpc_items.specs.declared.calls.HandleKey.{HandleKey}
use Rattle.rpc_items.specs.declared.messages.Message.{Message}
use Rattle.rpc_items.specs.declared.messages.Message.TheVariants.{Request, Notification}
use Rattle.rpc_items.specs.Keys.{same_key, own_key}
use Rattle.rpc_items.specs.declared.methods.Meaning.{Meaning}
use Rattle.rpc_items.specs.declared.methods.Meaning.TheVariants.{Releases}
use Rattle.rpc_items.specs.Meanings.{meaning}
use Rattle.rpc_items.specs.Items.{Release, RpcItem, Did, Got, End}
use Rattle.rpc_items.specs.Drawn.{with_number}
use Rattle.rpc_items.specs.Made.{Made, made}
use Rattle.rpc_items.specs.Outcomes.{response_in}

-- whether this meaning is a release of this handle
abbrev pub is_release : HandleKey → Meaning → Bool
is_release key (Releases released) = same_key released key
is_release key meaning = false

-- whether a message releases this handle
abbrev pub releases : HandleKey → Message → Bool
releases key (Request id method params) = is_release key (meaning method params)
releases key (Notification method params) = is_release key (meaning method params)
releases key message = false

-- the object of own handle n
abbrev pub own_made : ℕ → List RpcItem → Option Made
own_made number items = with_number number (made items)

-- whether a message is the response to the request that carried a handle of call lifetime
abbrev pub answers_carrier : Option ℕ → Message → Bool
answers_carrier (Some n) message = is_some (response_in n message)
answers_carrier None message = false

-- whether an item ends own handle n: a release by either side, the response to its request, or the end
abbrev pub ends_own : ℕ → (until : Option ℕ) → RpcItem → Bool
ends_own number until (Did (Release key)) = same_key key (own_key number)
ends_own number until (Got place message) = releases (own_key number) message || answers_carrier until message
ends_own number until (End cause) = true
ends_own number until item = false

-- whether an item ends own handle n, where it was made
abbrev pub ends_made : ℕ → Option Made → RpcItem → Bool
ends_made number (Some made) item = ends_own number made.until item
ends_made number None item = false

-- whether own handle n has ended: some item after its making ends it
abbrev pub own_ended : ℕ → List RpcItem → Bool
own_ended number [] = false
own_ended number (item ∷ items) = own_ended number items || ends_made number (own_made number items) item

-- whether own handle n is live
abbrev pub own_live : ℕ → List RpcItem → Bool
own_live number items = is_some (own_made number items) && not (own_ended number items)
