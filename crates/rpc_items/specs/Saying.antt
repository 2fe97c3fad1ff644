-- What an item says to the peer.
use Rattle.std.specs.Prelude.{ℕ, ◌+◌, List, [], ◌∷◌, length, take, Bool, true, false, nat_lt, codes, if◌then◌else◌, Option, Some, None, ◌++◌}
use Rattle.wire_base.specs.Tree.{Tree}
use Rattle.wire_base.specs.declared.text.Id.{Id}
use Rattle.wire_base.specs.Tree as tree
use Rattle.rpc_items.specs.declared.calls.Arg.{Arg}
use Rattle.rpc_items.specs.declared.calls.Arguments.{Arguments}
use Rattle.rpc_items.specs.declared.calls.Answer.{Answer}
use Rattle.rpc_items.specs.declared.calls.Lifetime.TheVariants.{Explicit}
use Rattle.rpc_items.specs.declared.messages.Message.{Message}
use Rattle.rpc_items.specs.declared.messages.Message.TheVariants.{Request, Notification}
use Rattle.rpc_items.specs.declared.messages.Params.{Params}
use Rattle.rpc_items.specs.declared.calls.Arg.TheVariants as arg
use Rattle.rpc_items.specs.declared.calls.Arguments.TheVariants as arguments
use Rattle.rpc_items.specs.declared.calls.Answer.TheVariants as answer
use Rattle.rpc_items.specs.declared.messages.Message.TheVariants as message
use Rattle.rpc_items.specs.declared.messages.Params.TheVariants as params
use Rattle.rpc_items.specs.Ids.{numbered_id, id_value, count_value}
use Rattle.rpc_items.specs.Objects.{object_value, handed_value}
use Rattle.rpc_items.specs.Methods.{cancel_request, progress, next_page, abort_pages, release_object, proxy_method}
use Rattle.rpc_items.specs.Meanings.{meaning}
use Rattle.rpc_items.specs.Items.{RpcCall, Ask, Tell, Respond, Cancel, Report, TakeReport, Next, Abort, Invoke, Release, Forget, RpcItem, Did, Got, End}
use Rattle.rpc_items.specs.Drawn.{drawn}
use Rattle.rpc_items.specs.Made.{last_handle}
use Rattle.rpc_items.specs.Produced.{last_token}
use Rattle.rpc_items.specs.Pages.{sequence_value}
use Rattle.rpc_items.specs.Sequences.{sequence_of}
use Rattle.rpc_items.specs.Automatic.{automatic}

-- arguments as they are said, in a request of number n, where so many handles were drawn before
abbrev pub arg_values : (n handles : ℕ) → List Arg → List Tree
arg_values n handles [] = []
arg_values n handles (arg.Plain value ∷ args) = value ∷ arg_values n handles args
arg_values n handles (arg.Progress ∷ args) = count_value n ∷ arg_values n handles args
arg_values n handles (arg.Object object lifetime ∷ args) = object_value (handles + 1) lifetime ∷ arg_values n (handles + 1) args
arg_values n handles (arg.Handed handle ∷ args) = handed_value handle ∷ arg_values n handles args

-- parameters as they are said
abbrev pub params_of : (n handles : ℕ) → Arguments → Params
params_of n handles arguments.Absent = params.Absent
params_of n handles (arguments.List args) = params.List (arg_values n handles args)
params_of n handles (arguments.Named ps) = params.Named ps

-- the request that draws number n
abbrev pub asks_next : ℕ → List ℕ → Arguments → List RpcItem → List Message
asks_next n method args items = Request (numbered_id n) method (params_of n (last_handle items) args) ∷ []

-- the result that is a sequence, with a token where values are left
abbrev pub result_of_sequence : List Tree → (first token : ℕ) → Tree
result_of_sequence values first token = sequence_value (if nat_lt first (length values) then Some token else None) (take first values)

-- the response with this answer
abbrev pub response : Id → Answer → List RpcItem → Message
response id (answer.Value value) items = message.Result id value
response id (answer.Object object) items = message.Result id (object_value (last_handle items + 1) Explicit)
response id (answer.Sequence values page first) items = message.Result id (result_of_sequence values first (last_token items + 1))
response id (answer.Fault code text more) items = message.Error (Some id) code text more

-- something that is said of a token that is known
abbrev pub with_token : Option Id → (Id → Message) → List Message
with_token (Some token) say = say token ∷ []
with_token None say = []

-- a request for the next page
abbrev pub turn_message : (number : ℕ) → Id → Message
turn_message number token = Request (numbered_id number) next_page (params.Named ((codes "token", id_value token) ∷ []))

-- a notification that gives a sequence up
abbrev pub abort_message : Id → Message
abort_message token = Notification abort_pages (params.Named ((codes "token", id_value token) ∷ []))

-- the messages that an item says, after the older items: one at most
abbrev pub said : RpcItem → List RpcItem → List Message
said (Did (Ask method args expect)) items = asks_next (drawn items + 1) method args items
said (Did (Tell method args)) items = Notification method (params_of 0 (last_handle items) args) ∷ []
said (Did (Respond id response_given)) items = response id response_given items ∷ []
said (Did (Cancel n)) items = Notification cancel_request (params.Named ((codes "id", count_value n) ∷ [])) ∷ []
said (Did (Report id token value)) items = Notification progress (params.Named ((codes "token", id_value token) ∷ (codes "value", value) ∷ [])) ∷ []
said (Did (TakeReport n)) items = []
said (Did (Next n)) items = with_token (sequence_of n items) (λ token. turn_message (drawn items + 1) token)
said (Did (Abort n)) items = with_token (sequence_of n items) abort_message
said (Did (Invoke handle method args expect)) items = asks_next (drawn items + 1) (proxy_method handle method) args items
said (Did (Release key)) items = Notification release_object (params.Named ((codes "handle", count_value key.number) ∷ (codes "ownedBySender", tree.flag key.own) ∷ [])) ∷ []
said (Did (Forget n)) items = []
said (Got place (Request id method params)) items = automatic id (meaning method params) items
said (Got place message) items = []
said (End cause) items = []

-- whether a call says anything
abbrev pub emits : RpcCall → Bool
emits (TakeReport n) = false
emits (Forget n) = false
emits call = true

-- all that was said, oldest first
abbrev pub all_said : List RpcItem → List Message
all_said [] = []
all_said (item ∷ items) = all_said items ++ said item items

-- all messages that were applied, oldest first
abbrev pub all_got : List RpcItem → List Message
all_got [] = []
all_got (Got place message ∷ items) = all_got items ++ (message ∷ [])
all_got (item ∷ items) = all_got items
