-- A token that stops the parser's loop breaks the least rule, and one that doesn't leads on.
use Rattle.std.proofs.Common.{◌≡◌, inl, inr, ℕ, ◌+◌, ◌<◌, ◌≤◌, Bool, List, length, get_or, Some, None, Result, Ok, Err, IfOk, refl, sym, ap, subst, ◌∙◌, arith}
use Rattle.std.specs.List.{slice_get}
use Rattle.std.specs.Prelude.{IfErr, MatchResult, option_map}
use Rattle.std.proofs.lemmas.List.{length-map}
use Rattle.std.proofs.lemmas.Option.{slice_get-map, slice_get-get_or, slice_get_past}
use Rattle.fip_grammar.specs.declared.token.Token as code
use Rattle.fip_grammar.specs.WordView.{token, tokens}
use Rattle.fip_language.specs.declared.Place.{Place}
use Rattle.fip_language.specs.declared.rule.Rule.{Rule}
use Rattle.fip_language.specs.declared.rule.Rule.TheVariants as R
use Rattle.fip_language.specs.Surface.{Declaration, Program}
use Rattle.fip_base.specs.declared.surface.Program as tree
use Rattle.fip_base.specs.declared.refusal.Refusal.{Refusal}
use Rattle.fip_base.specs.SurfaceView as surface
use Rattle.fip_grammar.specs.Cut.{IsCut}
use Rattle.fip_grammar.specs.Token.{Token, value_of}
use Rattle.fip_grammar.specs.Limits.{IsLeastBroken, IsSpelt, IsMisspelt, limit, place_or, place_at}
use Rattle.fip_grammar.specs.Machine as M
use Rattle.fip_grammar.proofs.Signs.{negates}
use Rattle.fip_grammar.proofs.Least.{Reads, reads_limit, reads_refused, reads_too_deep, reads_too_large, reads_next, spelt_once, spelt_or_misspelt}
use Rattle.fip_grammar.specs.declared.lexer.LexError.{LexError}
use Rattle.fip_grammar.specs.declared.lexer.LexError.TheVariants as L
use Rattle.fip_grammar.specs.Claims.{Bad}
use Rattle.parser_state.specs.declared.state.State.{State}
use Rattle.parser_state.specs.declared.state.State.TheVariants as V
use Rattle.parser_state.specs.declared.state.BodyPosition.TheVariants as B
use Rattle.parser_state.specs.declared.state.PatternPosition.TheVariants as P
use Rattle.fip_parser.specs.declared.parser.ParseError.{ParseError}
use Rattle.fip_parser.specs.declared.parser.ParseError.TheVariants as E
use Rattle.parser_state.specs.StateView as view
use Rattle.fip_parser.specs.Parsed.{Read, Goes, Broken, Fails, IsSpeltBy, IsMisspeltBy, IsRefused, refusal_of}

pub state_negates : (s : State) → view.negated s ≡ negates (view.state s)
state_negates (V.Body (B.Minus p) b) = refl
state_negates (V.Body q b) = refl
state_negates (V.Matching (P.Minus p) os b m) = refl
state_negates (V.Matching q os b m) = refl
state_negates s = refl

-- between two declarations alone a program may end
pub unended : (s : State) (ds : List Declaration) → (s ≡ V.Top → ⊥) → M.ended_in ds (view.state s) ≡ None
unended V.Top ds k = absurd (k refl)
unended (V.Body B.Block b) ds k = refl
unended (V.Body q b) ds k = refl
unended s ds k = refl

broken_least : (ts : List Token) (i : ℕ) (r : Read) (t : Token) (negated : Bool) (rule : Rule) → Reads ts i r.machine r.seen → negated ≡ negates r.machine.state → slice_get ts i ≡ Some t → Broken negated r t rule → IsLeastBroken ts rule i
broken_least ts i r t negated rule h n at (inl (k, none)) = subst (λ z. IsLeastBroken ts z i) (sym k) (reads_refused ts i r.machine r.seen t h at none)
broken_least ts i r t negated rule h n at (inr ((m, e), inl (inl (k, o, d)))) = subst (λ z. IsLeastBroken ts z i) (sym k) (reads_too_deep ts i r.machine m r.seen t h at e o d)
broken_least ts i r t negated rule h n at (inr ((m, e), inl (inr (k, (ds, w, l))))) = subst (λ z. IsLeastBroken ts z i) (sym k) (reads_too_large ts i r.machine m r.seen t ds h at e w l)
broken_least ts i r t negated rule h n at (inr ((m, e), inr (k, (ds, w, l)))) =
    subst (λ z. IsLeastBroken ts z i) (sym k)
    (reads_too_large ts i r.machine m r.seen t ds h at e w (subst (λ z. z < value_of ds) (ap limit n ∙ sym (reads_limit ts i r.machine r.seen h)) l))

pub fails_least : (ts : List Token) (end : Place) (i : ℕ) (r : Read) (t : Token) (negated : Bool) (e : ParseError) → Reads ts i r.machine r.seen → negated ≡ negates r.machine.state → slice_get ts i ≡ Some t → Fails negated r t e → IsMisspeltBy ts end e
fails_least ts end i r t negated E.NoMemory h n at f = tt
fails_least ts end i r t negated (E.Refused x) h n at f = (f.0, i, broken_least ts i r t negated f.0 h n at f.1, f.2 ∙ ap (refusal_of f.0) (ap (place_or end) (sym at)))

pub goes_on : (ts : List Token) (i : ℕ) (old new : Read) (t : Token) → Reads ts i old.machine old.seen → slice_get ts i ≡ Some t → Goes old new t → Reads ts (i + 1) new.machine new.seen
goes_on ts i old new t h at g =
    subst (λ b. Reads ts (i + 1) new.machine b) (sym g.1)
    (reads_next ts i old.machine new.machine old.seen t h at g.0 g.2.0 (λ ds w l. g.2.1 (ds, w, l)))

-- What the tokens say, said of the source that is cut into them.

pub spelt_by : (source : List ℕ) (ts : List Token) (end : Place) (r : Result tree.Program ParseError) → IsCut source ts end → IfOk r (λ p. IsSpeltBy ts (surface.program p)) → IfOk r (λ p. IsSpelt source (surface.program p))
spelt_by source ts end (Ok p) cut h = (ts, end, cut, h.0, h.1)
spelt_by source ts end (Err e) cut h = tt

misspelt_as : (source : List ℕ) (ts : List Token) (end : Place) (e : ParseError) → IsCut source ts end → IsMisspeltBy ts end e → IsRefused source e
misspelt_as source ts end E.NoMemory cut h = tt
misspelt_as source ts end (E.Refused x) cut h = (h.0, place_at ts end h.1, inr (ts, end, h.1, cut, h.2, refl), h.3)

pub misspelt_by : (source : List ℕ) (ts : List Token) (end : Place) (r : Result tree.Program ParseError) → IsCut source ts end → IfErr r (λ e. IsMisspeltBy ts end e) → IfErr r (λ e. IsRefused source e)
misspelt_by source ts end (Ok p) cut h = tt
misspelt_by source ts end (Err e) cut h = misspelt_as source ts end e cut h

-- A source that spells a program is parsed to it, unless memory runs out.
pub only_one : (source : List ℕ) (p : Program) (r : Result tree.Program ParseError) → IfOk r (λ q. IsSpelt source (surface.program q)) → IfErr r (λ e. IsRefused source e) → IsSpelt source p → MatchResult r (λ q. surface.program q ≡ p) (λ e. e ≡ E.NoMemory)
only_one source p (Ok q) a b h = spelt_once source (surface.program q) p a h
only_one source p (Err E.NoMemory) a b h = refl
only_one source p (Err (E.Refused x)) a b h = absurd (spelt_or_misspelt source p b.0 b.1 h b.2)

pub refused_so : (source : List ℕ) (r : Result tree.Program ParseError) (x : Refusal) → IfErr r (λ e. IsRefused source e) → r ≡ Err (E.Refused x) → (rule : Rule) × (place : Place) × IsMisspelt source rule place × (x ≡ refusal_of rule place)
refused_so source r x h e = subst (λ z. IfErr z (λ y. IsRefused source y)) e h

-- Where the loop is among the tokens.

pub at_token : (xs ys : List code.Token) (i : ℕ) (d : code.Token) → ys ≡ xs → i < length ys → slice_get (tokens xs) i ≡ Some (token (get_or ys i d))
at_token xs ys i d e l =
    ap (λ z. slice_get (tokens z) i) (sym e) ∙ slice_get-map token ys i ∙ ap (option_map token) (slice_get-get_or ys i d l)

pub at_end : (xs ys : List code.Token) (i : ℕ) → ys ≡ xs → length ys ≤ i → i ≤ length (tokens xs) → i ≡ length (tokens xs)
at_end xs ys i e l h = let k = ap length e in let n = length-map xs token in omega arith

-- the place after the last token
pub place_of_end : (ts : List Token) (end : Place) (i : ℕ) → i ≡ length ts → end ≡ place_at ts end i
place_of_end ts end i h = ap (place_or end) (sym (slice_get_past ts i (omega arith)))

pub bad_byte : (source : List ℕ) (e : LexError) (p : Place) (x : ParseError) → e ≡ L.BadByte p → Bad source e → x ≡ E.Refused (refusal_of R.E01 p) → IsRefused source x
bad_byte source e p x h b k = subst (IsRefused source) (sym k) (R.E01, p, inl (refl, subst (Bad source) h b), refl)
