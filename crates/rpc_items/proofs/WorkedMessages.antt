-- Worked values: messages as values, and the first rule that a value breaks. The first ones are examples of JSON-RPC 2.0.
use Rattle.std.specs.Prelude.{ℕ, List, [], ◌∷◌, true, codes, Some, None, Ok, Err, pos, negsuc, replicate}
use Rattle.std.proofs.Common.{◌≡◌, refl}
use Rattle.wire_base.specs.Tree as tree
use Rattle.wire_base.specs.Tree.{Tree, trees_of, pairs_of}
use Rattle.wire_base.specs.declared.reason.Reason.TheVariants as reason
use Rattle.wire_base.specs.declared.text.Id.TheVariants.{Number, Name}
use Rattle.rpc_items.specs.declared.messages.Message.TheVariants.{Request, Notification}
use Rattle.rpc_items.specs.declared.messages.Message.TheVariants as message
use Rattle.rpc_items.specs.declared.messages.Params.TheVariants as params
use Rattle.rpc_items.specs.Writing.{message_value}
use Rattle.rpc_items.specs.Reading.{message_in}

-- values and members

abbrev text : List ℕ → Tree
text s = tree.words s

abbrev number : ℕ → Tree
number n = tree.whole (pos n)

abbrev array : List Tree → Tree
array values = tree.items (trees_of values)

abbrev map : List (List ℕ × Tree) → Tree
map ps = tree.pairs (pairs_of ps)

abbrev two : List ℕ × Tree
two = (codes "jsonrpc", text (codes "2.0"))

abbrev id : Tree → List ℕ × Tree
id value = (codes "id", value)

abbrev method : Tree → List ℕ × Tree
method value = (codes "method", value)

abbrev given : Tree → List ℕ × Tree
given value = (codes "params", value)

abbrev result : Tree → List ℕ × Tree
result value = (codes "result", value)

abbrev error : Tree → List ℕ × Tree
error value = (codes "error", value)

abbrev fault_of : (code : Tree) → List ℕ → Tree
fault_of code s = map ((codes "code", code) ∷ (codes "message", text s) ∷ [])

abbrev subtract : List ℕ
subtract = codes "subtract"

-- positional and named parameters

positional : message_in (map (two ∷ method (text subtract) ∷ given (array (number 42 ∷ number 23 ∷ [])) ∷ id (number 1) ∷ [])) ≡ Ok (Request (Number (pos 1)) subtract (params.List (number 42 ∷ number 23 ∷ [])))
positional = refl

named : message_in (map (two ∷ method (text subtract) ∷ given (map ((codes "subtrahend", number 23) ∷ (codes "minuend", number 42) ∷ [])) ∷ id (number 3) ∷ [])) ≡ Ok (Request (Number (pos 3)) subtract (params.Named ((codes "subtrahend", number 23) ∷ (codes "minuend", number 42) ∷ [])))
named = refl

nineteen : message_in (map (two ∷ result (number 19) ∷ id (number 1) ∷ [])) ≡ Ok (message.Result (Number (pos 1)) (number 19))
nineteen = refl

-- notifications

update : message_in (map (two ∷ method (text (codes "update")) ∷ given (array (number 1 ∷ number 2 ∷ [])) ∷ [])) ≡ Ok (Notification (codes "update") (params.List (number 1 ∷ number 2 ∷ [])))
update = refl

without_params : message_in (map (two ∷ method (text (codes "foobar")) ∷ [])) ≡ Ok (Notification (codes "foobar") params.Absent)
without_params = refl

-- errors

not_found : message_in (map (two ∷ error (fault_of (tree.whole (negsuc 32600)) (codes "Method not found")) ∷ id (text (codes "1")) ∷ [])) ≡ Ok (message.Error (Some (Name (codes "1"))) (negsuc 32600) (codes "Method not found") None)
not_found = refl

parse_error : message_in (map (two ∷ error (fault_of (tree.whole (negsuc 32699)) (codes "Parse error")) ∷ id tree.nil ∷ [])) ≡ Ok (message.Error None (negsuc 32699) (codes "Parse error") None)
parse_error = refl

no_request : message_in (map (two ∷ method (number 1) ∷ given (text (codes "bar")) ∷ [])) ≡ Err reason.BadMethod
no_request = refl

-- batches, and what is no object

empty_batch : message_in (array []) ≡ Err reason.Batch
empty_batch = refl

batch : message_in (array (map (two ∷ method (text subtract) ∷ []) ∷ [])) ≡ Err reason.Batch
batch = refl

no_object : message_in (text subtract) ≡ Err reason.NotObject
no_object = refl

nothing : message_in tree.nil ≡ Err reason.NotObject
nothing = refl

-- the version, then the method, then the id, then the parameters

version_before_method : message_in (map (method (number 1) ∷ [])) ≡ Err reason.NotVersion2
version_before_method = refl

version_one : message_in (map ((codes "jsonrpc", text (codes "1.0")) ∷ method (text subtract) ∷ [])) ≡ Err reason.NotVersion2
version_one = refl

version_as_number : message_in (map ((codes "jsonrpc", number 2) ∷ method (text subtract) ∷ [])) ≡ Err reason.NotVersion2
version_as_number = refl

last_version : message_in (map ((codes "jsonrpc", text (codes "1.0")) ∷ two ∷ method (text subtract) ∷ [])) ≡ Ok (Notification subtract params.Absent)
last_version = refl

method_before_id : message_in (map (two ∷ id (tree.flag true) ∷ method (number 1) ∷ [])) ≡ Err reason.BadMethod
method_before_id = refl

nil_method : message_in (map (two ∷ id (number 1) ∷ method tree.nil ∷ result (number 19) ∷ [])) ≡ Err reason.BadMethod
nil_method = refl

method_with_result : message_in (map (two ∷ id (number 1) ∷ method (text subtract) ∷ result (number 19) ∷ [])) ≡ Ok (Request (Number (pos 1)) subtract params.Absent)
method_with_result = refl

id_before_params : message_in (map (two ∷ id (tree.flag true) ∷ method (text subtract) ∷ given (number 5) ∷ [])) ≡ Err reason.BadId62
id_before_params = refl

nil_id : message_in (map (two ∷ id tree.nil ∷ method (text subtract) ∷ [])) ≡ Err reason.BadId62
nil_id = refl

wide_id : message_in (map (two ∷ id (number 0x8000000000000000) ∷ method (text subtract) ∷ [])) ≡ Err reason.BadId62
wide_id = refl

low_id : message_in (map (two ∷ id (tree.whole (negsuc 0x8000000000000000)) ∷ method (text subtract) ∷ [])) ≡ Err reason.BadId62
low_id = refl

lowest_id : message_in (map (two ∷ id (tree.whole (negsuc 0x7fffffffffffffff)) ∷ method (text subtract) ∷ [])) ≡ Ok (Request (Number (negsuc 0x7fffffffffffffff)) subtract params.Absent)
lowest_id = refl

long_id : message_in (map (two ∷ id (text (replicate 1025 97)) ∷ method (text subtract) ∷ [])) ≡ Err reason.BadId62
long_id = refl

longest_id : message_in (map (two ∷ id (text (replicate 1024 97)) ∷ method (text subtract) ∷ [])) ≡ Ok (Request (Name (replicate 1024 97)) subtract params.Absent)
longest_id = refl

bad_params : message_in (map (two ∷ id (number 1) ∷ method (text subtract) ∷ given (text (codes "bar")) ∷ [])) ≡ Err reason.BadParams
bad_params = refl

bad_params_told : message_in (map (two ∷ method (text subtract) ∷ given (number 5) ∷ [])) ≡ Err reason.BadParams
bad_params_told = refl

nil_params : message_in (map (two ∷ id (number 1) ∷ method (text subtract) ∷ given tree.nil ∷ [])) ≡ Ok (Request (Number (pos 1)) subtract params.Absent)
nil_params = refl

-- a response: one of result and error, then the id, then the error

both_before_id : message_in (map (two ∷ id (tree.flag true) ∷ result (number 19) ∷ error (number 5) ∷ [])) ≡ Err reason.BothOrNeither
both_before_id = refl

neither_before_id : message_in (map (two ∷ id (tree.flag true) ∷ [])) ≡ Err reason.BothOrNeither
neither_before_id = refl

nil_error_alone : message_in (map (two ∷ id (number 1) ∷ error tree.nil ∷ [])) ≡ Err reason.BothOrNeither
nil_error_alone = refl

nil_error : message_in (map (two ∷ id (number 1) ∷ result (number 19) ∷ error tree.nil ∷ [])) ≡ Ok (message.Result (Number (pos 1)) (number 19))
nil_error = refl

nil_result : message_in (map (two ∷ id (number 1) ∷ result tree.nil ∷ [])) ≡ Ok (message.Result (Number (pos 1)) tree.nil)
nil_result = refl

nil_result_with_error : message_in (map (two ∷ id (number 1) ∷ result tree.nil ∷ error (number 5) ∷ [])) ≡ Err reason.BothOrNeither
nil_result_with_error = refl

result_without_id : message_in (map (two ∷ result (number 19) ∷ [])) ≡ Err reason.BadId62
result_without_id = refl

result_with_nil_id : message_in (map (two ∷ id tree.nil ∷ result (number 19) ∷ [])) ≡ Err reason.BadId62
result_with_nil_id = refl

id_before_error : message_in (map (two ∷ id (tree.flag true) ∷ error (number 5) ∷ [])) ≡ Err reason.BadId62
id_before_error = refl

error_without_id : message_in (map (two ∷ error (fault_of (number 7) subtract) ∷ [])) ≡ Ok (message.Error None (pos 7) subtract None)
error_without_id = refl

error_no_map : message_in (map (two ∷ id (number 1) ∷ error (text subtract) ∷ [])) ≡ Err reason.BadError
error_no_map = refl

error_code_text : message_in (map (two ∷ id (number 1) ∷ error (fault_of (text subtract) subtract) ∷ [])) ≡ Err reason.BadError
error_code_text = refl

error_code_wide : message_in (map (two ∷ id (number 1) ∷ error (fault_of (number 0x8000000000000000) subtract) ∷ [])) ≡ Err reason.BadError
error_code_wide = refl

error_without_text : message_in (map (two ∷ id (number 1) ∷ error (map ((codes "code", number 7) ∷ [])) ∷ [])) ≡ Err reason.BadError
error_without_text = refl

error_with_data : message_in (map (two ∷ id (number 1) ∷ error (map ((codes "data", tree.nil) ∷ (codes "message", text subtract) ∷ (codes "code", number 7) ∷ [])) ∷ [])) ≡ Ok (message.Error (Some (Number (pos 1))) (pos 7) subtract (Some tree.nil))
error_with_data = refl

-- messages as values

writes_request : message_value (Request (Name (codes "a")) subtract (params.List (number 42 ∷ []))) ≡ map (two ∷ id (text (codes "a")) ∷ method (text subtract) ∷ given (array (number 42 ∷ [])) ∷ [])
writes_request = refl

writes_named : message_value (Notification subtract (params.Named ((codes "minuend", number 42) ∷ []))) ≡ map (two ∷ method (text subtract) ∷ given (map ((codes "minuend", number 42) ∷ [])) ∷ [])
writes_named = refl

writes_no_params : message_value (Request (Number (pos 1)) subtract params.Absent) ≡ map (two ∷ id (number 1) ∷ method (text subtract) ∷ [])
writes_no_params = refl

writes_result : message_value (message.Result (Number (negsuc 0)) tree.nil) ≡ map (two ∷ id (tree.whole (negsuc 0)) ∷ result tree.nil ∷ [])
writes_result = refl

writes_error : message_value (message.Error (Some (Number (pos 1))) (negsuc 32600) subtract (Some (number 5))) ≡ map (two ∷ id (number 1) ∷ error (map ((codes "code", tree.whole (negsuc 32600)) ∷ (codes "message", text subtract) ∷ (codes "data", number 5) ∷ [])) ∷ [])
writes_error = refl

writes_error_without_id : message_value (message.Error None (pos 7) subtract None) ≡ map (two ∷ id tree.nil ∷ error (fault_of (number 7) subtract) ∷ [])
writes_error_without_id = refl
