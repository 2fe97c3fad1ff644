-- What happened on one connection. Lists of items have the newest first.
use Rattle.std.specs.Prelude.{ℕ, List, [], ◌∷◌, Bool, is_none, Option, Some, None}
use Rattle.wire_base.specs.declared.state.Cause.{Cause}
use Rattle.wire_base.specs.declared.text.Id.{Id}
use Rattle.wire_base.specs.Tree.{Tree}
use Rattle.rpc_items.specs.declared.calls.Arguments.{Arguments}
use Rattle.rpc_items.specs.declared.calls.Answer.{Answer}
use Rattle.rpc_items.specs.declared.calls.Expect.{Expect}
use Rattle.rpc_items.specs.declared.calls.HandleKey.{HandleKey}
use Rattle.rpc_items.specs.declared.messages.Message.{Message}

-- a call of this end; `Next` and `Abort` name the request whose result is the sequence, `Invoke` a handle of the peer
pub data RpcCall : Type 0 where
  Ask : (method : List ℕ) → (args : Arguments) → (expect : Expect) → RpcCall
  Tell : (method : List ℕ) → (args : Arguments) → RpcCall
  Respond : (id : Id) → (response : Answer) → RpcCall
  Cancel : (n : ℕ) → RpcCall
  Report : (id token : Id) → (value : Tree) → RpcCall
  TakeReport : (n : ℕ) → RpcCall
  Next : (n : ℕ) → RpcCall
  Abort : (n : ℕ) → RpcCall
  Invoke : (handle : ℕ) → (method : List ℕ) → (args : Arguments) → (expect : Expect) → RpcCall
  Release : (key : HandleKey) → RpcCall
  Forget : (n : ℕ) → RpcCall

-- an accepted call, an applied message, or the end; a place is that of the message's first byte
pub data RpcItem : Type 0 where
  Did : (call : RpcCall) → RpcItem
  Got : (place : ℕ) → (message : Message) → RpcItem
  End : (cause : Cause) → RpcItem

-- the cause of the end, where there was one
abbrev pub ended : List RpcItem → Option Cause
ended [] = None
ended (End cause ∷ items) = Some cause
ended (item ∷ items) = ended items

-- whether there was no end
abbrev pub is_running : List RpcItem → Bool
is_running items = is_none (ended items)
