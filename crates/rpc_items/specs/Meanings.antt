-- What a method with its parameters asks for.
use Rattle.std.specs.Prelude.{ℕ, ◌+◌, ◌-◌, ◌*◌, pos, List, [], ◌∷◌, not, ◌&&◌, ◌==◌, nat_lt, nat_le, codes, bytes_eq, if◌then◌else◌, Option, Some, None}
use Rattle.wire_base.specs.Tree.{Tree}
use Rattle.wire_base.specs.Find.{last_of}
use Rattle.wire_base.specs.declared.text.Id.{Id}
use Rattle.wire_base.specs.Tree as tree
use Rattle.rpc_items.specs.declared.methods.Meaning.{Meaning}
use Rattle.rpc_items.specs.declared.methods.Meaning.TheVariants.{Serves, Cancels, Reports, Turns, Aborts, Releases, Calls, Mistakes, Unknown}
use Rattle.rpc_items.specs.declared.messages.Params.{Params}
use Rattle.rpc_items.specs.declared.messages.Params.TheVariants.{Named}
use Rattle.rpc_items.specs.declared.messages.Params.TheVariants as params
use Rattle.rpc_items.specs.Ids.{whole_bound, id_if}
use Rattle.rpc_items.specs.Methods.{cancel_request, progress, next_page, abort_pages, release_object, invoke_proxy, slash, after_front, is_reserved}

-- the one argument, named or positional, where there is just that
abbrev pub one_argument : (name : List ℕ) → Params → Option Tree
one_argument name (Named ps) = last_of name ps
one_argument name (params.List (value ∷ [])) = Some value
one_argument name params = None

-- the first of two arguments, named or positional
abbrev pub first_argument : (name : List ℕ) → Params → Option Tree
first_argument name (Named ps) = last_of name ps
first_argument name (params.List (a ∷ b ∷ [])) = Some a
first_argument name params = None

-- the second of two arguments, named or positional
abbrev pub second_argument : (name : List ℕ) → Params → Option Tree
second_argument name (Named ps) = last_of name ps
second_argument name (params.List (a ∷ b ∷ [])) = Some b
second_argument name params = None

-- a cancellation names a request
abbrev pub cancels_by : Option Id → Meaning
cancels_by (Some id) = Cancels id
cancels_by None = Mistakes

-- a report has a token and a value
abbrev pub reports_by : Option Id → Option Tree → Meaning
reports_by (Some token) (Some value) = Reports token value
reports_by token value = Mistakes

-- a request for a page names a sequence
abbrev pub turns_by : Option Id → Meaning
turns_by (Some token) = Turns token
turns_by None = Mistakes

-- an abort names a sequence
abbrev pub aborts_by : Option Id → Meaning
aborts_by (Some token) = Aborts token
aborts_by None = Mistakes

-- a release names a handle and tells whether its sender made it; what its sender made is the peer's here
abbrev pub releases_by : Option Tree → Option Tree → Meaning
releases_by (Some (tree.whole (pos n))) (Some (tree.flag by_sender)) = if nat_lt n whole_bound then Releases (record { number = n; own = not by_sender }) else Mistakes
releases_by handle by_sender = Mistakes

-- the byte of the digit 0
abbrev pub zero_digit : ℕ
zero_digit = 48

-- the byte of the digit 9
abbrev pub nine_digit : ℕ
nine_digit = 57

-- the most digits of a handle
abbrev pub most_digits : ℕ
most_digits = 19

-- digits and a slash, and then the method is all that follows; so many digits came before, and they were this number
abbrev pub calls_by : (number count : ℕ) → List ℕ → Meaning
calls_by number count [] = Unknown
calls_by number count (c ∷ s) =
    if c == slash then (if nat_lt 0 count then Calls number s else Unknown)
    else if nat_le zero_digit c && nat_le c nine_digit && nat_lt count most_digits then calls_by (number * 10 + (c - zero_digit)) (count + 1) s
    else Unknown

-- a call on a handle, where the method begins as such a call does
abbrev pub calls_after : Option (List ℕ) → Meaning
calls_after (Some s) = calls_by 0 0 s
calls_after None = Unknown

-- what a method with its parameters asks for
abbrev pub meaning : List ℕ → Params → Meaning
meaning method params =
    if not (is_reserved method) then Serves
    else if bytes_eq method cancel_request then cancels_by (id_if (one_argument (codes "id") params))
    else if bytes_eq method progress then reports_by (id_if (first_argument (codes "token") params)) (second_argument (codes "value") params)
    else if bytes_eq method next_page then turns_by (id_if (one_argument (codes "token") params))
    else if bytes_eq method abort_pages then aborts_by (id_if (one_argument (codes "token") params))
    else if bytes_eq method release_object then releases_by (first_argument (codes "handle") params) (second_argument (codes "ownedBySender") params)
    else calls_after (after_front invoke_proxy method)
