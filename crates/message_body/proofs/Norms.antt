-- The normal form of a value says the same message, with its data in normal form.
use Rattle.std.specs.Prelude.{if◌then◌else◌, not, codes, map, Bool, true, false, Result, Ok, Err}
use Rattle.std.proofs.Common.{◌≡◌, ℕ, List, [], ◌∷◌, refl, sym, ◌∙◌, ap, ap₂, Option, Some, None, option_map}
use Rattle.wire_base.specs.Find.{last_of}
use Rattle.wire_base.specs.Tree.{Tree, nil, flag, whole, words, bytes, items, pairs, Trees, no_items, item, Pairs, no_pairs, list_of, pairs_of, pair_list_of}
use Rattle.wire_base.specs.declared.reason.Reason.{Reason}
use Rattle.wire_base.specs.declared.reason.Reason.TheVariants as reason
use Rattle.wire_base.specs.declared.text.Id.{Id}
use Rattle.json_value.specs.Normal.{norm, norm_items, norm_onto}
use Rattle.json_value.proofs.LastLemmas.{last_of-norm}
use Rattle.json_value.proofs.NormLemmas.{norm-norm}
use Rattle.wire_base.proofs.Back.{pairs_of-list_of}
use Rattle.rpc_items.specs.declared.messages.Params.{Params}
use Rattle.rpc_items.specs.declared.messages.Params.TheVariants.{Named}
use Rattle.rpc_items.specs.declared.messages.Params.TheVariants as params
use Rattle.rpc_items.specs.declared.messages.Message.{Message}
use Rattle.rpc_items.specs.declared.messages.Message.TheVariants as message
use Rattle.rpc_items.specs.Ids.{is_id_number, id_in, id_if}
use Rattle.rpc_items.specs.Reading.{is_version, unless_nil, id_or_bad, optional_id, params_in, call_with, call_in, result_with, error_with, response_with, by_method, message_in}
use Rattle.rpc_items.specs.Values.{member}
use Rattle.message_body.specs.declared.encoding.Encoding.{Encoding}
use Rattle.message_body.specs.declared.encoding.Encoding.TheVariants.{Json, Pack}
use Rattle.message_body.specs.AsRead.{norm_members, norm_params, norm_message, as_read}

-- ---- lists and members

list_of-norm : (ts : Trees) → list_of (norm_items ts) ≡ map norm (list_of ts)
list_of-norm no_items = refl
list_of-norm (item t ts) = ap (λ us. norm t ∷ us) (list_of-norm ts)

pair_list_of-norm : (ps : Pairs) → pair_list_of (norm_onto no_pairs ps) ≡ norm_members (pair_list_of ps)
pair_list_of-norm ps = ap (λ qs. pair_list_of (norm_onto no_pairs qs)) (sym (pairs_of-list_of ps))

member-norm : (key : List ℕ) (t : Tree) → member key (norm t) ≡ option_map norm (member key t)
member-norm key nil = refl
member-norm key (flag b) = refl
member-norm key (whole z) = refl
member-norm key (words s) = refl
member-norm key (bytes s) = refl
member-norm key (items ts) = refl
member-norm key (pairs ps) = ap (last_of key) (pair_list_of-norm ps) ∙ last_of-norm key (pair_list_of ps)

-- ---- each part of a message

is_version-norm : (o : Option Tree) → is_version (option_map norm o) ≡ is_version o
is_version-norm None = refl
is_version-norm (Some nil) = refl
is_version-norm (Some (flag b)) = refl
is_version-norm (Some (whole z)) = refl
is_version-norm (Some (words s)) = refl
is_version-norm (Some (bytes s)) = refl
is_version-norm (Some (items ts)) = refl
is_version-norm (Some (pairs ps)) = refl

unless_nil-norm : (o : Option Tree) → unless_nil (option_map norm o) ≡ option_map norm (unless_nil o)
unless_nil-norm None = refl
unless_nil-norm (Some nil) = refl
unless_nil-norm (Some (flag b)) = refl
unless_nil-norm (Some (whole z)) = refl
unless_nil-norm (Some (words s)) = refl
unless_nil-norm (Some (bytes s)) = refl
unless_nil-norm (Some (items ts)) = refl
unless_nil-norm (Some (pairs ps)) = refl

id_in-norm : (t : Tree) → id_in (norm t) ≡ id_in t
id_in-norm nil = refl
id_in-norm (flag b) = refl
id_in-norm (whole z) = refl
id_in-norm (words s) = refl
id_in-norm (bytes s) = refl
id_in-norm (items ts) = refl
id_in-norm (pairs ps) = refl

optional_id-norm : (o : Option Tree) → optional_id (option_map norm o) ≡ optional_id o
optional_id-norm None = refl
optional_id-norm (Some t) = ap id_or_bad (id_in-norm t)

id_if-norm : (o : Option Tree) → id_if (option_map norm o) ≡ id_if o
id_if-norm None = refl
id_if-norm (Some t) = id_in-norm t

abbrev with_params : Result Params Reason → Result Params Reason
with_params (Ok given) = Ok (norm_params given)
with_params (Err r) = Err r

params_in-norm : (o : Option Tree) → params_in (option_map norm o) ≡ with_params (params_in o)
params_in-norm None = refl
params_in-norm (Some nil) = refl
params_in-norm (Some (flag b)) = refl
params_in-norm (Some (whole z)) = refl
params_in-norm (Some (words s)) = refl
params_in-norm (Some (bytes s)) = refl
params_in-norm (Some (items ts)) = ap (λ values. Ok (params.List values)) (list_of-norm ts)
params_in-norm (Some (pairs ps)) = ap (λ qs. Ok (Named qs)) (pair_list_of-norm ps)

-- ---- calls and responses

abbrev normed : Result Message Reason → Result Message Reason
normed (Ok m) = Ok (norm_message m)
normed (Err r) = Err r

call_with-norm : (method : List ℕ) (id : Result (Option Id) Reason) (given : Result Params Reason) → call_with method id (with_params given) ≡ normed (call_with method id given)
call_with-norm method (Err r) given = refl
call_with-norm method (Ok (Some id)) (Ok given) = refl
call_with-norm method (Ok (Some id)) (Err r) = refl
call_with-norm method (Ok None) (Ok given) = refl
call_with-norm method (Ok None) (Err r) = refl

call_in-norm : (method : Tree) (id given : Option Tree) → call_in (norm method) (option_map norm id) (option_map norm given) ≡ normed (call_in method id given)
call_in-norm nil id given = refl
call_in-norm (flag b) id given = refl
call_in-norm (whole z) id given = refl
call_in-norm (words s) id given = rw (optional_id-norm id, params_in-norm given) (call_with-norm s (optional_id id) (params_in given))
call_in-norm (bytes s) id given = refl
call_in-norm (items ts) id given = refl
call_in-norm (pairs ps) id given = refl

result_with-norm : (id : Option Id) (value : Tree) → result_with id (norm value) ≡ normed (result_with id value)
result_with-norm (Some id) value = refl
result_with-norm None value = refl

in_range-norm : (b : Bool) (m : Message) → (if b then Ok (norm_message m) else Err reason.BadError) ≡ normed (if b then Ok m else Err reason.BadError)
in_range-norm true m = refl
in_range-norm false m = refl

error_with-norm : (id : Result (Option Id) Reason) (code text more : Option Tree) → error_with id (option_map norm code) (option_map norm text) (option_map norm more) ≡ normed (error_with id code text more)
error_with-norm (Err r) code text more = refl
error_with-norm (Ok id) None text more = refl
error_with-norm (Ok id) (Some nil) text more = refl
error_with-norm (Ok id) (Some (flag b)) text more = refl
error_with-norm (Ok id) (Some (words s)) text more = refl
error_with-norm (Ok id) (Some (bytes s)) text more = refl
error_with-norm (Ok id) (Some (items ts)) text more = refl
error_with-norm (Ok id) (Some (pairs ps)) text more = refl
error_with-norm (Ok id) (Some (whole z)) None more = refl
error_with-norm (Ok id) (Some (whole z)) (Some nil) more = refl
error_with-norm (Ok id) (Some (whole z)) (Some (flag b)) more = refl
error_with-norm (Ok id) (Some (whole z)) (Some (whole y)) more = refl
error_with-norm (Ok id) (Some (whole z)) (Some (words s)) more = in_range-norm (is_id_number z) (message.Error id z s more)
error_with-norm (Ok id) (Some (whole z)) (Some (bytes s)) more = refl
error_with-norm (Ok id) (Some (whole z)) (Some (items ts)) more = refl
error_with-norm (Ok id) (Some (whole z)) (Some (pairs ps)) more = refl

response_with-norm : (id result error : Option Tree) → response_with (option_map norm id) (option_map norm result) (option_map norm error) ≡ normed (response_with id result error)
response_with-norm id (Some value) None = rw (id_if-norm id) (result_with-norm (id_if id) value)
response_with-norm id None (Some error) =
    rw (unless_nil-norm id, optional_id-norm (unless_nil id), member-norm (codes "code") error, member-norm (codes "message") error, member-norm (codes "data") error)
    (error_with-norm (optional_id (unless_nil id)) (member (codes "code") error) (member (codes "message") error) (member (codes "data") error))
response_with-norm id (Some value) (Some error) = refl
response_with-norm id None None = refl

by_method-norm : (method id given result error : Option Tree)
    → by_method (option_map norm method) (option_map norm id) (option_map norm given) (option_map norm result) (option_map norm error) ≡ normed (by_method method id given result error)
by_method-norm (Some method) id given result error = call_in-norm method id given
by_method-norm None id given result error = response_with-norm id result error

-- ---- messages

-- the message with these members
abbrev message_with : (List ℕ → Option Tree) → Result Message Reason
message_with at =
    if not (is_version (at (codes "jsonrpc"))) then Err reason.NotVersion2
    else by_method (at (codes "method")) (at (codes "id")) (at (codes "params")) (at (codes "result")) (unless_nil (at (codes "error")))

unless_version : (b : Bool) (x y : Result Message Reason) → x ≡ normed y → (if b then Err reason.NotVersion2 else x) ≡ normed (if b then Err reason.NotVersion2 else y)
unless_version true x y e = refl
unless_version false x y e = e

message_with-norm : (at_norm at : List ℕ → Option Tree) → ((key : List ℕ) → at_norm key ≡ option_map norm (at key)) → message_with at_norm ≡ normed (message_with at)
message_with-norm at_norm at e =
    rw (e (codes "jsonrpc"), e (codes "method"), e (codes "id"), e (codes "params"), e (codes "result"), e (codes "error"), is_version-norm (at (codes "jsonrpc")), unless_nil-norm (at (codes "error")))
    (unless_version (not (is_version (at (codes "jsonrpc")))) _ _ (by_method-norm (at (codes "method")) (at (codes "id")) (at (codes "params")) (at (codes "result")) (unless_nil (at (codes "error")))))

message_in-norm : (t : Tree) → message_in (norm t) ≡ normed (message_in t)
message_in-norm nil = refl
message_in-norm (flag b) = refl
message_in-norm (whole z) = refl
message_in-norm (words s) = refl
message_in-norm (bytes s) = refl
message_in-norm (items ts) = refl
message_in-norm (pairs ps) = message_with-norm (λ key. member key (norm (pairs ps))) (λ key. member key (pairs ps)) (λ key. member-norm key (pairs ps))

pub norm_says : (t : Tree) (m : Message) → message_in t ≡ Ok m → message_in (norm t) ≡ Ok (norm_message m)
norm_says t m e = message_in-norm t ∙ ap normed e

-- ---- once more

abbrev members_in : Tree → List (List ℕ × Tree)
members_in (pairs ps) = pair_list_of ps
members_in t = []

norm_members-again : (ps : List (List ℕ × Tree)) → norm_members (norm_members ps) ≡ norm_members ps
norm_members-again ps =
    ap (λ qs. pair_list_of (norm_onto no_pairs qs)) (pairs_of-list_of (norm_onto no_pairs (pairs_of ps))) ∙ ap members_in (norm-norm (pairs (pairs_of ps)))

map_norm-again : (values : List Tree) → map norm (map norm values) ≡ map norm values
map_norm-again [] = refl
map_norm-again (value ∷ values) = ap₂ (λ t ts. t ∷ ts) (norm-norm value) (map_norm-again values)

norm_params-again : (given : Params) → norm_params (norm_params given) ≡ norm_params given
norm_params-again params.Absent = refl
norm_params-again (params.List values) = ap params.List (map_norm-again values)
norm_params-again (Named ps) = ap Named (norm_members-again ps)

norm_message-again : (m : Message) → norm_message (norm_message m) ≡ norm_message m
norm_message-again (message.Request id method given) = ap (message.Request id method) (norm_params-again given)
norm_message-again (message.Notification method given) = ap (message.Notification method) (norm_params-again given)
norm_message-again (message.Result id value) = ap (message.Result id) (norm-norm value)
norm_message-again (message.Error id code text (Some more)) = ap (λ t. message.Error id code text (Some t)) (norm-norm more)
norm_message-again (message.Error id code text None) = refl

pub as_read-again : (e : Encoding) (m : Message) → as_read e (as_read e m) ≡ as_read e m
as_read-again Json m = norm_message-again m
as_read-again Pack m = refl
