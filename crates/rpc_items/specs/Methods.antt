-- Methods of the extensions, which begin with `$/`.
use Rattle.std.specs.Prelude.{ℕ, List, [], ◌∷◌, ◌++◌, Bool, ◌==◌, codes, is_some, if◌then◌else◌, Option, Some, None}
use Rattle.std.specs.Fmt.{decimal}

-- gives a request up
abbrev pub cancel_request : List ℕ
cancel_request = codes "$/cancelRequest"

-- reports on a request
abbrev pub progress : List ℕ
progress = codes "$/progress"

-- asks for the next page of a sequence
abbrev pub next_page : List ℕ
next_page = codes "$/enumerator/next"

-- gives a sequence up
abbrev pub abort_pages : List ℕ
abort_pages = codes "$/enumerator/abort"

-- releases a handle
abbrev pub release_object : List ℕ
release_object = codes "$/releaseMarshaledObject"

-- calls an object by its handle; the handle and the object's method follow
abbrev pub invoke_proxy : List ℕ
invoke_proxy = codes "$/invokeProxy/"

-- the byte between a handle and a method
abbrev pub slash : ℕ
slash = 47

-- the method of a call on a handle of the peer
abbrev pub proxy_method : ℕ → List ℕ → List ℕ
proxy_method handle method = invoke_proxy ++ (decimal handle ++ (slash ∷ method))

-- what follows this front, where the text begins with it
abbrev pub after_front : (front : List ℕ) → List ℕ → Option (List ℕ)
after_front [] s = Some s
after_front (a ∷ front) [] = None
after_front (a ∷ front) (b ∷ s) = if a == b then after_front front s else None

-- whether a method begins with `$/`
abbrev pub is_reserved : List ℕ → Bool
is_reserved method = is_some (after_front (codes "$/") method)
