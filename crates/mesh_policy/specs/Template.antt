-- Path templates (Istio reference, "Authorization Policy": `paths` of an Operation; Envoy reference,
-- UriTemplateMatchConfig), in the two ways of writing them: `{*}` and `{**}` in policies, `*` and `**` in
-- Envoy's URI templates.
use Rattle.std.specs.Prelude.{◌≡◌, ◌≢◌, ℕ, ◌==◌, nat_eq, Bool, true, false, not, ◌&&◌, ◌||◌, if◌then◌else◌}
use Rattle.std.specs.Prelude.{List, [], ◌∷◌, length, codes, map, slice_index, Option, Some, None}
use Rattle.std.specs.List.{after_first, before_first, concat, ends_with, join_with_byte, list_all, list_any, slice_split}
use Rattle.std.specs.Str.{bytes_eq}
use Rattle.mesh_text.specs.Bytes.{close_brace, open_brace, slash, star}

-- a text of its own, or one of the two operators
pub data Piece : Type 0 where
  literal : List ℕ → Piece
  one_segment : Piece
  any_text : Piece

-- a segment (RFC 3986, section 3.3) has none
abbrev pub has_slash : List ℕ → Bool
has_slash t = list_any (λ c. c == slash) t

-- itself; a text without '/' that is not empty; any text
abbrev pub StandsFor : Piece → List ℕ → Type 0
StandsFor (literal v) t = t ≡ v
StandsFor one_segment t = (t ≢ []) × (has_slash t ≡ false)
StandsFor any_text t = Unit {0}

-- one text for each piece, in order
abbrev pub StandFor : List Piece → List (List ℕ) → Type 0
StandFor [] [] = Unit {0}
StandFor [] (t ∷ ts) = ⊥
StandFor (p ∷ ps) [] = ⊥
StandFor (p ∷ ps) (t ∷ ts) = StandsFor p t × StandFor ps ts

-- the text is such texts, one behind the other
abbrev pub TemplateHolds : List Piece → List ℕ → Type 0
TemplateHolds ps t = (texts : List (List ℕ)) × StandFor ps texts × (t ≡ concat texts)

-- what stands between the slashes of a text
abbrev pub segments_of : List ℕ → List (List ℕ)
segments_of s = slice_split (λ c. c == slash) s

-- a segment that is no operator stands for itself; the two operators are written like this
abbrev pub piece_of : List ℕ → List ℕ → List ℕ → Piece
piece_of one any segment =
    if bytes_eq segment any then any_text
    else (if bytes_eq segment one then one_segment
    else literal segment)

-- the pieces of the segments, with a slash between each two
abbrev pub pieces_of : List ℕ → List ℕ → List (List ℕ) → List Piece
pieces_of one any [] = []
pieces_of one any (s ∷ []) = piece_of one any s ∷ []
pieces_of one any (s ∷ t ∷ more) = piece_of one any s ∷ literal (slash ∷ []) ∷ pieces_of one any (t ∷ more)

-- one of the two
abbrev pub is_operator : List ℕ → List ℕ → List ℕ → Bool
is_operator one any segment = bytes_eq segment one || bytes_eq segment any

-- none of '*', '{' and '}'
abbrev pub is_plain : List ℕ → Bool
is_plain segment = list_all (λ c. not ((c == star) || (c == open_brace) || (c == close_brace))) segment

-- an operator takes a segment whole
abbrev pub is_segment : List ℕ → List ℕ → List ℕ → Bool
is_segment one any segment = is_operator one any segment || is_plain segment

-- no operator stands behind one for any text
abbrev pub any_is_last : List ℕ → List ℕ → List (List ℕ) → Bool
any_is_last one any [] = true
any_is_last one any (s ∷ more) = if bytes_eq s any then not (list_any (is_operator one any) more) else any_is_last one any more

abbrev pub begins_with_slash : List ℕ → Bool
begins_with_slash s = slice_index s 0 == slash

-- A template, with its operators written like this: it begins with '/', each segment is an operator or
-- plain, one at least is an operator, and the one for any text comes once at most and last.
abbrev pub is_form : List ℕ → List ℕ → List ℕ → Bool
is_form one any s =
    begins_with_slash s && list_all (is_segment one any) (segments_of s) && list_any (is_operator one any) (segments_of s)
    && any_is_last one any (segments_of s)

-- as policies write it
abbrev pub is_template : List ℕ → Bool
is_template s = is_form (codes "{*}") (codes "{**}") s

-- and what it is made of
abbrev pub template_pieces : List ℕ → List Piece
template_pieces s = pieces_of (codes "{*}") (codes "{**}") (segments_of s)

-- as Envoy writes it
abbrev pub is_uri : List ℕ → Bool
is_uri s = is_form (codes "*") (codes "**") s

-- and what that is made of
abbrev pub uri_pieces : List ℕ → List Piece
uri_pieces s = pieces_of (codes "*") (codes "**") (segments_of s)

-- from the first way to the second
abbrev pub uri_segment : List ℕ → List ℕ
uri_segment s =
    if bytes_eq s (codes "{*}") then codes "*"
    else (if bytes_eq s (codes "{**}") then codes "**"
    else s)

-- segment by segment
abbrev pub uri_of : List ℕ → List ℕ
uri_of s = join_with_byte slash (map uri_segment (segments_of s))

-- what a template is known by: the URI form of a text, where the text is a template
abbrev pub template_of : List ℕ → Option (List ℕ)
template_of s = if is_template s then Some (uri_of s) else None

-- a URI form is known by itself
abbrev pub template_of_uri : List ℕ → Option (List ℕ)
template_of_uri s = if is_uri s then Some s else None

-- StandsFor of a segment of a URI form other than `**`, as a test
abbrev pub stands_for : List ℕ → List ℕ → Bool
stands_for segment t = if bytes_eq segment (codes "*") then not (length t == 0) && not (has_slash t) else bytes_eq segment t

-- from the first segment on, with a slash between each two
abbrev pub segments_hold : List (List ℕ) → List ℕ → Bool
segments_hold [] t = false
segments_hold (s ∷ []) t = if bytes_eq s (codes "**") then true else stands_for s t
segments_hold (s ∷ next ∷ more) t =
    if bytes_eq s (codes "**") then ends_with nat_eq t (slash ∷ join_with_byte slash (next ∷ more))
    else (has_slash t && stands_for s (before_first (λ c. c == slash) t) && segments_hold (next ∷ more) (after_first (λ c. c == slash) t))

-- TemplateHolds of a URI form, as a test
abbrev pub template_holds : List ℕ → List ℕ → Bool
template_holds uri t = segments_hold (segments_of uri) t
