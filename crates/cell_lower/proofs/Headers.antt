-- The headers of functions, and copies of tables of types, a part at a time.
use Rattle.std.proofs.Common.{arith, ap, ap₂, ◌≡◌, ◌∙◌, refl, sym, subst, ℕ, zero, suc, ◌<◌, Bool, true, false, List, [], ◌∷◌, ◌++◌, length, Option, Some, None, slice_get, take}
use Rattle.std.proofs.lemmas.Option.{none-some, same_Some}
use Rattle.std.specs.Prelude.{option_map}
use Rattle.fip_language.specs.declared.FunKind.{FunKind}
use Rattle.fip_language.specs.declared.FunKind.TheVariants.{Fip, Fbip, Fun}
use Rattle.fip_language.specs.Table.{Table, shapes, constructors}
use Rattle.fip_trees.specs.declared.groups.Member.{Member}
use Rattle.fip_trees.specs.Tree.{Instance}
use Rattle.lower_parts.specs.lowering_relation.LoweredBodies.{has_function, one_more, if_function, function_of}
use Rattle.lower_parts.proofs.lower_frame.Spelt.{no_function_spelt}
use Rattle.cell_lower.specs.Limits.{is_ruled, registers, registers_of}
use Rattle.cell_lower.specs.Shape.{Header, header_of, and_if, headers_from}

pub and_if-append : (b : Bool) (h : Header) (hs : List Header) → and_if b h [] ++ hs ≡ and_if b h hs
and_if-append true h hs = refl
and_if-append false h hs = refl

pub registers-some : (o : Option Member) (r : ℕ) → option_map (λ m. m.registers) o ≡ Some r → registers_of o ≡ r
registers-some None r h = absurd (cc)
registers-some (Some m) r h = cc

pub ruleset heading = (and_if-append, registers-some)

pub ruleset functions = (no_function_spelt)

-- the instance of a function

pub record IsOfInstance (ds : List Instance) (n : ℕ) (h : Header) : Type 0 where
  pub place : ℕ
  pub instance : Instance
  pub there : slice_get ds place ≡ Some instance
  pub function : function_of ds place ≡ Some n
  pub registers : ℕ
  pub is : h ≡ header_of registers instance

here : (d : Instance) (ds : List Instance) (r : ℕ) (h : Header) → has_function d.kind ≡ true → Some (header_of r d) ≡ Some h → IsOfInstance (d ∷ ds) 0 h
here d ds r h k e = record { place = 0; instance = d; there = refl; function = ap if_function k; registers = r; is = sym (same_Some (header_of r d) h e) }

following : (d : Instance) (ds : List Instance) (n m : ℕ) (h : Header) (b : Bool) → has_function d.kind ≡ b → one_more b (Some n) ≡ Some m → IsOfInstance ds n h → IsOfInstance (d ∷ ds) m h
following d ds n m h b k e x = record { place = suc x.place; instance = x.instance; there = x.there; function = ap₂ one_more k x.function ∙ e; registers = x.registers; is = x.is }

one_step : (d : Instance) (ds : List Instance) (r : ℕ) (hs : List Header) (n : ℕ) (h : Header) → ((m : ℕ) → slice_get hs m ≡ Some h → IsOfInstance ds m h) → (k : FunKind) → d.kind ≡ k → slice_get (and_if (is_ruled k) (header_of r d) hs) n ≡ Some h → IsOfInstance (d ∷ ds) n h
one_step d ds r hs zero h rest Fip k e = here d ds r h (ap has_function k) e
one_step d ds r hs (suc n) h rest Fip k e = following d ds n (suc n) h true (ap has_function k) refl (rest n e)
one_step d ds r hs zero h rest Fbip k e = here d ds r h (ap has_function k) e
one_step d ds r hs (suc n) h rest Fbip k e = following d ds n (suc n) h true (ap has_function k) refl (rest n e)
one_step d ds r hs n h rest Fun k e = following d ds n n h false (ap has_function k) refl (rest n e)

pub instance_there : (ms : List Member) (i : ℕ) (ds : List Instance) (n : ℕ) (h : Header) → slice_get (headers_from ms i ds) n ≡ Some h → IsOfInstance ds n h
instance_there ms i [] n h e = absurd (none-some h e)
instance_there ms i (d ∷ ds) n h e = one_step d ds (registers ms i) (headers_from ms (suc i) ds) n h (λ m x. instance_there ms (suc i) ds m h x) d.kind refl e

-- an instance that has a function isn't plain
function_if : (b : Bool) (n : ℕ) → if_function b ≡ Some n → b ≡ true
function_if true n e = refl
function_if false n e = absurd (cc)

function_more : (b : Bool) (o : Option ℕ) (n : ℕ) → one_more b o ≡ Some n → (m : ℕ) × (o ≡ Some m)
function_more b None n e = absurd (cc)
function_more b (Some m) n e = (m, refl)

pub has_function_there : (ds : List Instance) (g n : ℕ) (d : Instance) → function_of ds g ≡ Some n → slice_get ds g ≡ Some d → has_function d.kind ≡ true
has_function_there [] g n d e there = absurd (cc)
has_function_there (x ∷ ds) zero n d e there = subst (λ (y : Instance). has_function y.kind ≡ true) (same_Some x d there) (function_if (has_function x.kind) n e)
has_function_there (x ∷ ds) (suc g) n d e there = let z = function_more (has_function x.kind) (function_of ds g) n e in has_function_there ds g z.0 d z.1 there

-- copies of tables

pub taken-shapes : (tb : Table) (t : ℕ) → t < length tb → take t tb ++ shapes tb t ∷ [] ≡ take (suc t) tb
taken-shapes [] t h = absurd (omega (arith, h))
taken-shapes (row ∷ rows) zero h = refl
taken-shapes (row ∷ rows) (suc t) h = ap (λ xs. row ∷ xs) (taken-shapes rows t (omega (arith, h)))

pub taken-constructors : (tb : Table) (p t : ℕ) → t ≡ suc p → p < length tb → take p tb ++ constructors tb t ∷ [] ≡ take (suc p) tb
taken-constructors tb p zero e h = absurd (omega (arith, e))
taken-constructors tb p (suc t) e h = ap (λ q. take p tb ++ shapes tb q ∷ []) (omega (arith, e)) ∙ taken-shapes tb p h

pub ruleset tables = (taken-constructors)
