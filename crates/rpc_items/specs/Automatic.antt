-- Answers that a connection gives by itself.
use Rattle.std.specs.Prelude.{ℕ, ◌+◌, ℤ, negsuc, List, [], ◌∷◌, not, codes, if◌then◌else◌, Option, Some, None}
use Rattle.wire_base.specs.declared.text.Id.{Id}
use Rattle.wire_base.specs.Tree as tree
use Rattle.rpc_items.specs.declared.messages.Message.{Message}
use Rattle.rpc_items.specs.declared.messages.Message.TheVariants as message
use Rattle.rpc_items.specs.declared.methods.Meaning.{Meaning}
use Rattle.rpc_items.specs.declared.methods.Meaning.TheVariants.{Serves, Cancels, Reports, Turns, Aborts, Releases, Calls, Mistakes, Unknown}
use Rattle.rpc_items.specs.Items.{RpcItem}
use Rattle.rpc_items.specs.Produced.{Produced, produced_at}
use Rattle.rpc_items.specs.OwnHandles.{own_live}
use Rattle.rpc_items.specs.Pages.{page_after, are_left, page_value}
use Rattle.rpc_items.specs.Producing.{page_count, sequence_named}

-- the code of an answer that names no live handle or token
abbrev pub nothing_there : ℤ
nothing_there = negsuc 32000  -- -32001

-- the code of an answer to an extension with other arguments
abbrev pub bad_arguments : ℤ
bad_arguments = negsuc 32601  -- -32602

-- the code of an answer to a reserved method that isn't known
abbrev pub no_method : ℤ
no_method = negsuc 32600  -- -32601

-- an error that has no data
abbrev pub fault : Id → ℤ → List ℕ → Message
fault id code text = message.Error (Some id) code text None

-- a result that tells nothing
abbrev pub done : Id → Message
done id = message.Result id tree.nil

-- the next page of a sequence, as an answer
abbrev pub page_message : Id → Produced → (pages : ℕ) → Message
page_message id s pages = message.Result id (page_value (not (are_left s (pages + 1))) (page_after s pages))

-- the next page of a sequence that there may be, as an answer
abbrev pub page_by : Id → Option Produced → (pages : ℕ) → List Message
page_by id (Some s) pages = page_message id s pages ∷ []
page_by id None pages = []

-- the answer to a request for a page: the page of a live sequence, or that there is none
abbrev pub turned : Id → Option ℕ → List RpcItem → List Message
turned id (Some token) items = page_by id (produced_at token items) (page_count token items)
turned id None items = fault id nothing_there (codes "no sequence") ∷ []

-- the answer that a request gets by itself, after these items; none where the service has to answer
abbrev pub automatic : Id → Meaning → List RpcItem → List Message
automatic id Serves items = []
automatic id (Cancels named) items = done id ∷ []
automatic id (Reports token value) items = done id ∷ []
automatic id (Turns token) items = turned id (sequence_named token items) items
automatic id (Aborts token) items = done id ∷ []
automatic id (Releases key) items = done id ∷ []
automatic id (Calls handle method) items = if own_live handle items then [] else fault id nothing_there (codes "no object") ∷ []
automatic id Mistakes items = fault id bad_arguments (codes "bad arguments") ∷ []
automatic id Unknown items = fault id no_method (codes "no method") ∷ []
