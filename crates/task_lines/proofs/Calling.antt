-- A line as a call: its name, and what stands after it.
-- Idea: the values in the brackets have each a written form, and the written forms are those of the line.
use Rattle.std.proofs.Common.{◌≡◌, ◌∙◌, ◌≤◌, ◌<◌, ℕ, zero, suc, List, [], ◌∷◌, length, drop, Some, sym, ap, subst, arith}
use Rattle.std.specs.Prelude.{slice_get}
use Rattle.std.proofs.lemmas.Option.{same_Some}
use Rattle.cell_code.specs.declared.code.Code.{Code}
use Rattle.cell_code.specs.declared.code.Function.{Function}
use Rattle.fip_language.specs.Core.{Name}
use Rattle.fip_language.specs.Table.{Table}
use Rattle.fip_language.specs.Values.{Values, End, More}
use Rattle.session_lines.specs.session_semantics.Lines.{Symbol, Open, SignText, NameText, symbols, skip, Parts, NoParts, MoreParts, fresh_of}
use Rattle.session_lines.specs.session_semantics.Lines.{AllGivenText, MoreGivenText, CallText}
use Rattle.session_lines.specs.session_semantics.Typed.{AreValues}
use Rattle.value_text.specs.Loaded.{types_of, wanted}
use Rattle.value_text.specs.declared.counts.Counts.{Counts}
use Rattle.session_lines.specs.Named.{HasName}
use Rattle.session_lines.specs.declared.scan.Scanner.{Scanner}
use Rattle.session_lines.specs.Scanned.{left}
use Rattle.task_lines.specs.Called.{Called, IsCall}
use Rattle.session_values.specs.Readable.{IsReadable}
use Rattle.session_values.specs.Read.{Adds}
use Rattle.task_lines.specs.Reading.{AreAt, Further, Given, IsAt, IsCalled}

-- ---- from values to their written forms

record AreSpelt (tb : Table) (ks : List ℕ) (cs : List Symbol) (vs : Values) : Type 0 where
  parts : Parts
  rest : List Symbol
  text : MoreGivenText cs (fresh_of parts) rest
  ends : skip rest ≡ []
  typed : AreValues tb ks parts vs

further_spelt : (tb : Table) (ks : List ℕ) (cs : List Symbol) (vs : Values) → Further tb ks cs vs → AreSpelt tb ks cs vs
further_spelt tb [] cs End h = record { parts = NoParts; rest = h.0; text = h.1; ends = h.2; typed = tt }
further_spelt tb [] cs (More v vs) h = absurd h
further_spelt tb (k ∷ ks) cs End h = absurd h
further_spelt tb (k ∷ ks) cs (More v vs) h =
    let f = further_spelt tb ks h.1 vs h.4 in
    record { parts = MoreParts h.3.0 f.parts; rest = f.rest; text = (h.0, h.1, h.2, h.3.1, f.text); ends = f.ends; typed = (h.3.2, f.typed) }

record AreGiven (tb : Table) (ks : List ℕ) (cs : List Symbol) (vs : Values) : Type 0 where
  parts : Parts
  rest : List Symbol
  text : AllGivenText cs (fresh_of parts) rest
  ends : skip rest ≡ []
  typed : AreValues tb ks parts vs

given_spelt : (tb : Table) (ks : List ℕ) (cs : List Symbol) (vs : Values) → Given tb ks cs vs → AreGiven tb ks cs vs
given_spelt tb [] cs End h = record { parts = NoParts; rest = h.0; text = h.1; ends = h.2; typed = tt }
given_spelt tb [] cs (More v vs) h = absurd h
given_spelt tb (k ∷ ks) cs End h = absurd h
given_spelt tb (k ∷ ks) cs (More v vs) h =
    let f = further_spelt tb ks h.0 vs h.2 in
    record { parts = MoreParts h.1.0 f.parts; rest = f.rest; text = (h.0, h.1.1, f.text); ends = f.ends; typed = (h.1.2, f.typed) }

-- ---- and back

spelt_further : (tb : Table) (ks : List ℕ) (cs : List Symbol) (ws : Parts) (vs : Values) (rest : List Symbol) → MoreGivenText cs (fresh_of ws) rest → skip rest ≡ [] → AreValues tb ks ws vs → Further tb ks cs vs
spelt_further tb [] cs NoParts End rest h e is = (rest, h, e)
spelt_further tb [] cs NoParts (More v vs) rest h e is = absurd is
spelt_further tb [] cs (MoreParts w ws) vs rest h e is = absurd is
spelt_further tb (k ∷ ks) cs NoParts vs rest h e is = absurd is
spelt_further tb (k ∷ ks) cs (MoreParts w ws) End rest h e is = absurd is
spelt_further tb (k ∷ ks) cs (MoreParts w ws) (More v vs) rest h e is =
    (h.0, h.1, h.2, (w, h.3, is.0), spelt_further tb ks h.1 ws vs rest h.4 e is.1)

spelt_given : (tb : Table) (ks : List ℕ) (cs : List Symbol) (ws : Parts) (vs : Values) (rest : List Symbol) → AllGivenText cs (fresh_of ws) rest → skip rest ≡ [] → AreValues tb ks ws vs → Given tb ks cs vs
spelt_given tb [] cs NoParts End rest h e is = (rest, h, e)
spelt_given tb [] cs NoParts (More v vs) rest h e is = absurd is
spelt_given tb [] cs (MoreParts w ws) vs rest h e is = absurd is
spelt_given tb (k ∷ ks) cs NoParts vs rest h e is = absurd is
spelt_given tb (k ∷ ks) cs (MoreParts w ws) End rest h e is = absurd is
spelt_given tb (k ∷ ks) cs (MoreParts w ws) (More v vs) rest h e is = (h.0, (w, h.1, is.0), spelt_further tb ks h.0 ws vs rest h.2 e is.1)

-- ---- a line is a call

-- a new scanner is at the first byte of the line
pub starts : (bytes : List ℕ) (s : Scanner) → s.at ≡ 0 → s.bytes.now ≡ bytes → IsAt bytes s
starts bytes s at same = record { bytes = same; within = (let z = at in omega (arith, z)) }

pub whole_left : (bytes : List ℕ) (s : Scanner) → s.at ≡ 0 → s.bytes.now ≡ bytes → left s ≡ symbols bytes
whole_left bytes s at same = ap (λ n. symbols (drop n s.bytes.now)) at ∙ ap symbols same

pub is_call : (code : Code) (bytes : List ℕ) (old new : Scanner) (name : Name) (n : ℕ) (f : Function) (vs : Values) → left old ≡ symbols bytes → NameText (left old) name (left new) → HasName code.functions.items name n → slice_get code.functions.items n ≡ Some f → IsCalled code (left new) f vs → IsCall code bytes (record { entry = n; function = f; values = vs })
is_call code bytes old new name n f vs whole text has at called =
    let g = given_spelt code.types (types_of f.params) called.0 vs called.2 in
    let own : has.function ≡ f = same_Some has.function f (sym has.there ∙ at) in
    record {
      name = name;
      parts = g.parts;
      spelt = (left new, called.0, g.rest, subst (λ cs. NameText cs name (left new)) whole text, called.1, g.text, g.ends);
      there = at;
      named = ap (λ (h : Function). h.name) (sym own) ∙ has.named;
      some = has.some;
      typed = g.typed;
    }

-- the name of a line's call is what is read first, and its function is found
record IsReadAs (code : Code) (c : Called) (after : List Symbol) (name : Name) : Type 0 where
  pub has : HasName code.functions.items name c.entry
  pub called : IsCalled code after c.function c.values

read_as : (code : Code) (bytes : List ℕ) (cs after : List Symbol) (name : Name) (c : Called) → cs ≡ symbols bytes → NameText cs name after → IsCall code bytes c → IsReadAs code c after name
read_as code bytes cs after name c whole text call =
    let t : CallText (symbols bytes) call.name (fresh_of call.parts) = call.spelt in
    let here : NameText (symbols bytes) name after = subst (λ ds. NameText ds name after) whole text in
    let named : call.name ≡ name = t.3.is ∙ sym here.is in
    let following : t.0 ≡ after = t.3.then' ∙ sym here.then' in
    record {
      has = record { function = c.function; there = call.there; named = call.named ∙ named; some = subst (λ (m : Name). 0 < length m) named call.some };
      called = (t.1, subst (λ ds. SignText Open ds t.1) following t.4, spelt_given code.types (types_of c.function.params) t.1 call.parts c.values t.2 t.5 t.6 call.typed);
    }

pub no_name : (code : Code) (bytes : List ℕ) (cs : List Symbol) → cs ≡ symbols bytes → ((name : Name) (rest : List Symbol) → NameText cs name rest → ⊥) → (c : Called) → IsCall code bytes c → ⊥
no_name code bytes cs whole none c call =
    let t : CallText (symbols bytes) call.name (fresh_of call.parts) = call.spelt in
    none call.name t.0 (subst (λ ds. NameText ds call.name t.0) (sym whole) t.3)

pub no_entry : (code : Code) (bytes : List ℕ) (cs after : List Symbol) (name : Name) → cs ≡ symbols bytes → NameText cs name after → ((n : ℕ) → HasName code.functions.items name n → ⊥) → (c : Called) → IsCall code bytes c → ⊥
no_entry code bytes cs after name whole text none c call = none c.entry (read_as code bytes cs after name c whole text call).has

-- of a sound code a name is that of one function
pub no_values : (code : Code) (bytes : List ℕ) (cs after : List Symbol) (name : Name) (n : ℕ) (f : Function) → IsReadable code → cs ≡ symbols bytes → NameText cs name after → HasName code.functions.items name n → slice_get code.functions.items n ≡ Some f → ((vs : Values) → IsCalled code after f vs → ⊥) → (c : Called) → IsCall code bytes c → ⊥
no_values code bytes cs after name n f ok whole text has at none c call =
    let r = read_as code bytes cs after name c whole text call in
    let one : c.entry ≡ n = ok.names name c.entry n r.has has in
    let own : c.function ≡ f = same_Some c.function f (sym call.there ∙ ap (slice_get code.functions.items) one ∙ at) in
    none c.values (subst (λ (g : Function). IsCalled code after g c.values) own r.called)

pub within : (fs : List Function) (n : ℕ) (f : Function) → slice_get fs n ≡ Some f → n < length fs
within [] n f e = absurd cc
within (g ∷ fs) zero f e = omega arith
within (g ∷ fs) (suc n) f e = let r = within fs n f e in omega (arith, r)

pub never_past : (fs : List Function) (name : Name) (n : ℕ) → HasName fs name n → length fs ≤ n → ⊥
never_past fs name n has le = let r = within fs n has.function has.there in omega (arith, r, le)

-- what reading a call reports
abbrev pub IsReadCall : Code → List Symbol → Function → List ℕ → Counts → Counts → List ℕ → Type 0
IsReadCall code cs f bytes before after ps = (vs : Values) × IsCalled code cs f vs
    × AreAt code.types bytes (types_of f.params) ps vs × Adds before after (wanted f.credits.items vs)
