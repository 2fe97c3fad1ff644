-- The ids of requests that bodies say can be answered.
use Rattle.std.specs.Prelude.{ℕ, ◌-◌, nat_le, List, length, Bool, true, false, codes, not, if◌then◌else◌, Option, Some, None, Result, Ok, Err}
use Rattle.std.proofs.Common.{◌≡◌, refl, subst}
use Rattle.wire_base.specs.Tree.{Tree}
use Rattle.wire_base.specs.Tree as tree
use Rattle.wire_base.specs.declared.reason.Reason.{Reason}
use Rattle.wire_base.specs.declared.reason.Reason.TheVariants as reason
use Rattle.wire_base.specs.declared.text.Id.{Id}
use Rattle.wire_base.specs.declared.text.Id.TheVariants.{Number, Name}
use Rattle.message_body.specs.declared.encoding.Encoding.{Encoding}
use Rattle.message_body.specs.Found.{at_start, body_in, message_found, value_in}
use Rattle.rpc_items.specs.declared.messages.Message.{Message}
use Rattle.rpc_items.specs.declared.messages.Message.TheVariants as message
use Rattle.rpc_items.specs.declared.messages.Params.{Params}
use Rattle.rpc_items.specs.Fitting.{IsNamed}
use Rattle.rpc_items.specs.Ids.{id_in, is_id_number, most_id_text, id_if}
use Rattle.rpc_items.specs.Reading.{by_method, call_with, error_with, id_or_bad, is_version, message_in, optional_id, params_in, response_with, result_with, unless_nil}
use Rattle.rpc_items.specs.Values.{member}
use Rattle.rpc_end.specs.Heeding.{HasId}

-- the id of a request that is read can be answered

if_some : (b : Bool) (i id : Id) → (if b then Some i else None) ≡ Some id → (b ≡ true) × (i ≡ id)
if_some true i id h = (refl, cc)
if_some false i id h = absurd (cc h)

id_named : (value : Tree) (id : Id) → id_in value ≡ Some id → IsNamed id
id_named (tree.whole z) id h = let p = if_some (is_id_number z) (Number z) id h in subst (λ (i : Id). IsNamed i) p.1 (rw p.0 refl)
id_named (tree.words s) id h = let p = if_some (nat_le (length s) most_id_text) (Name s) id h in subst (λ (i : Id). IsNamed i) p.1 (rw p.0 refl)
id_named value id h = absurd (cc h)

abbrev IsFine : Result Message Reason → Type 0
IsFine (Ok m) = HasId m
IsFine (Err r) = Unit {0}

call_found : (method : List ℕ) (value : Tree) (found : Option Id) (given : Result Params Reason) → id_in value ≡ found → IsFine (call_with method (id_or_bad found) given)
call_found method value None given e = tt
call_found method value (Some id) (Err r) e = tt
call_found method value (Some id) (Ok given) e = id_named value id e

call_fine : (method : List ℕ) (id : Option Tree) (given : Result Params Reason) → IsFine (call_with method (optional_id id) given)
call_fine method (Some value) given = call_found method value (id_in value) given refl
call_fine method None (Err r) = tt
call_fine method None (Ok given) = tt

result_fine : (id : Option Id) (value : Tree) → IsFine (result_with id value)
result_fine (Some id) value = tt
result_fine None value = tt

if_fine : (b : Bool) (x y : Result Message Reason) → IsFine x → IsFine y → IsFine (if b then x else y)
if_fine true x y hx hy = hx
if_fine false x y hx hy = hy

error_fine : (id : Result (Option Id) Reason) (code text more : Option Tree) → IsFine (error_with id code text more)
error_fine (Err r) code text more = tt
error_fine (Ok id) (Some (tree.whole z)) (Some (tree.words text)) more = if_fine (is_id_number z) (Ok (message.Error id z text more)) (Err reason.BadError) tt tt
error_fine (Ok id) code text more = tt

response_fine : (id result error : Option Tree) → IsFine (response_with id result error)
response_fine id (Some value) None = result_fine (id_if id) value
response_fine id None (Some error) = error_fine (optional_id (unless_nil id)) _ _ _
response_fine id result error = tt

by_method_fine : (method id given result error : Option Tree) → IsFine (by_method method id given result error)
by_method_fine (Some (tree.words method)) id given result error = call_fine method id (params_in given)
by_method_fine (Some method) id given result error = tt
by_method_fine None id given result error = response_fine id result error

message_fine : (value : Tree) → IsFine (message_in value)
message_fine (tree.pairs ps) =
    let at : List ℕ → Option Tree = λ (key : List ℕ). member key (tree.pairs ps) in
    if_fine (not (is_version (at (codes "jsonrpc")))) (Err reason.NotVersion2) (by_method (at (codes "method")) (at (codes "id")) (at (codes "params")) (at (codes "result")) (unless_nil (at (codes "error")))) tt
    (by_method_fine (at (codes "method")) (at (codes "id")) (at (codes "params")) (at (codes "result")) (unless_nil (at (codes "error"))))
message_fine value = tt

started : (x : Result Message Reason) (m : Message) → IsFine x → at_start x ≡ Ok m → HasId m
started (Ok n) m fine h = let same : n ≡ m = cc in subst (λ (k : Message). HasId k) same fine
started (Err r) m fine h = absurd (cc h)

found : (x : Result Tree (ℕ × Reason)) (m : Message) → message_found x ≡ Ok m → HasId m
found (Ok value) m h = started (message_in value) m (message_fine value) h
found (Err e) m h = absurd (cc h)

pub has_id : (e : Encoding) (b : List ℕ) (m : Message) → body_in e b ≡ Ok m → HasId m
has_id e b m h = found (value_in e b) m h
