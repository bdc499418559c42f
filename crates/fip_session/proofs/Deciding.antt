-- Why a call is refused, or that it isn't.
use Rattle.std.proofs.Common.{◌≡◌, ◌≢◌, ◌⊎◌, inl, inr, ◌∙◌, ℕ, zero, suc, ◌<◌, ◌≤◌, Bool, true, false, List, [], ◌∷◌, ◌++◌, length, map, Option, Some, None, refl, sym, ap, subst, arith}
use Rattle.std.specs.Prelude.{nat_eq, slice_get, slice_index_or, codes, IsTrue, ◌↔◌}
use Rattle.std.specs.Fmt.{decimal}
use Rattle.std.proofs.lemmas.Bool.{eqb-true, eqb-false}
use Rattle.std.proofs.lemmas.Option.{none-some, same_Some}
use Rattle.cell_code.specs.declared.code.Code.{Code}
use Rattle.cell_code.specs.declared.code.Function.{Function}
use Rattle.fip_base.specs.declared.plain.Param.{Param}
use Rattle.fip_language.specs.Core.{Name}
use Rattle.fip_language.specs.Table.{Table}
use Rattle.fip_language.specs.Values.{Values}
use Rattle.fip_language.specs.SoundTable.{IsSoundTable, AreTypes}
use Rattle.session_lines.specs.Named.{HasName}
use Rattle.session_lines.specs.Said.{AreGiven}
use Rattle.session_lines.specs.declared.line.Written.{Written as Argument}
use Rattle.session_values.specs.Readable.{IsLine}
use Rattle.value_text.specs.Loaded.{types_of}
use Rattle.session_lines.specs.instance_semantics.fip_trees.Tree.{Instance}
use Rattle.session_lines.specs.session_semantics.Lines.{Given as Written}
use Rattle.session_lines.specs.session_semantics.Talk.{Setting, State, Holding, Called, CallReplies, NoEntry, WrongNumber, BadArgument, BadResult, AreTaken, AreFree, IsWrong, IsTakenName, used_by, written, reported}
use Rattle.session_lines.specs.session_semantics.Typed.{IsEntry}
use Rattle.session_values.specs.Read.{Adds}
use Rattle.value_text.specs.declared.counts.Counts.{Counts}
use Rattle.session_correctness.specs.Lodging.{Lodged, holding_of}
use Rattle.fip_session.specs.Planned.{CanTakeAll, TakesAll, IsBadAt, names_given, names_used}
use Rattle.fip_session.specs.Refused.{IsPlanned}
use Rattle.session_code.specs.Served.{IsOf, IsServed}
use Rattle.fip_session.specs.Booked.{IsBook}
use Rattle.fip_session.specs.declared.book.Book.{Book}
use Rattle.fip_session.specs.declared.plan.Arguments.{Arguments}
use Rattle.fip_session.specs.declared.plan.Plan.{Plan}
use Rattle.fip_language.proofs.Facts.{same_or_not as same_or}
pub use Rattle.fip_language.proofs.Facts.{none_of, reflected as is_right}

module _ (o : Setting) (s : State) (b : Book) (ls : List Lodged) (book : IsBook o b ls) (held : s.held ≡ map holding_of ls) (results : List Name) (name : Name) (gs : List Written) where
  abbrev functions : List Function
  functions = b.verified.now.code.functions.items

  pub no_entry : 0 < length name → ((n : ℕ) → HasName functions name n → ⊥) → CallReplies o s results name gs (reported (codes "no entry ") name) s
  no_entry some none = NoEntry (λ i d e. (let f = book.served.function name i d some e in none f.0 f.1))

  module _ (n : ℕ) (f : Function) (there : slice_get functions n ≡ Some f) (has : HasName functions name n) where
    own : has.function ≡ f
    own = same_Some has.function f (sym has.there ∙ there)

    named : f.name ≡ name
    named = ap (λ (g : Function). g.name) (sym own) ∙ has.named

    instance : (i : ℕ) × (d : Instance) × IsOf o b.verified.now.code n f i d
    instance = book.served.entry n f there (subst (λ (m : Name). 0 < length m) (sym named) has.some)

    abbrev i : ℕ
    i = instance.0

    abbrev d : Instance
    d = instance.1

    abbrev is_of : IsOf o b.verified.now.code n f i d
    is_of = instance.2

    entered : IsEntry o.program name i d
    entered = subst (λ (m : Name). IsEntry o.program m i d) named is_of.called

    params_many : length f.params ≡ length d.params
    params_many = ap length is_of.params

    results_many : length f.results ≡ length d.results
    results_many = ap length is_of.results

    pub wrong_number : ((length gs ≡ length f.params) × (length results ≡ length f.results) → ⊥) → CallReplies o s results name gs (codes "wrong number\n") s
    wrong_number not = WrongNumber i d entered (by (same_or (length gs) (length f.params)) (same_or (length results) (length f.results)))
      where
        by : (length gs ≡ length f.params) ⊎ (length gs ≢ length f.params) → (length results ≡ length f.results) ⊎ (length results ≢ length f.results) → (length gs ≢ length d.params) ⊎ (length results ≢ length d.results)
        by (inr off) r = inl (λ e. off (e ∙ sym params_many))
        by (inl e) (inr off) = inr (λ e. off (e ∙ sym results_many))
        by (inl e) (inl g) = absurd (not (e, g))

    module _ (given : length gs ≡ length f.params) (named' : length results ≡ length f.results) where
      -- what is said of the book's table and of the function is so of the program's and of the instance
      carried : (P : Table → List Holding → List Param → Type 0) → P b.table.now (map holding_of ls) f.params → P o.program.types s.held d.params
      carried P h = subst (λ tb. P tb s.held d.params) book.table (subst (λ hs. P b.table.now hs d.params) (sym held) (subst (λ qs. P b.table.now (map holding_of ls) qs) is_of.params h))

      pub bad_argument : (number : ℕ) → IsBadAt b.table.now (map holding_of ls) [] f.params gs number → CallReplies o s results name gs (reported (codes "bad argument ") (decimal number)) s
      bad_argument number bad =
          subst (λ m. CallReplies o s results name gs (reported (codes "bad argument ") (decimal m)) s) (sym bad.1)
          (BadArgument i d bad.0 entered (given ∙ params_many) (named' ∙ results_many) (carried (λ tb hs qs. IsWrong tb hs [] qs gs bad.0) bad.2))

      module _ (begun taken : Arguments) (empty : begun.given.items ≡ []) (all : TakesAll b.table.now (map holding_of ls) f.params gs begun taken) where
        are : AreTaken o.program.types s.held [] d.params gs all.values
        are = carried (λ tb hs qs. AreTaken tb hs [] qs gs all.values) (subst (λ gs'. AreTaken b.table.now (map holding_of ls) (names_given gs') f.params gs all.values) empty all.taken)

        used_is : names_used taken.given.items ≡ used_by o.program.types d.params gs
        used_is = all.used ∙ ap (λ gs'. names_used gs' ++ used_by b.table.now f.params gs) empty ∙ ap (λ tb. used_by tb f.params gs) book.table ∙ ap (λ qs. used_by o.program.types qs gs) is_of.params

        pub bad_result : (m : Name) → IsTakenName (map holding_of ls) (names_used taken.given.items) [] results m → CallReplies o s results name gs (reported (codes "bad result ") m) s
        bad_result m bad = BadResult i d all.values m entered (named' ∙ results_many) are (subst (λ us. IsTakenName s.held us [] results m) used_is (subst (λ hs. IsTakenName hs (names_used taken.given.items) [] results m) (sym held) bad))

        pub planned : (p : Plan) → p.entry ≡ n → p.function.now ≡ f → p.arguments ≡ taken → ((k : ℕ) → slice_index_or begun.fresh.numbers k 0 ≡ 0) → AreFree (map holding_of ls) (names_used taken.given.items) [] results → IsPlanned o s b results name gs p
        planned p entry function arguments zeros free = record {
          instance = i;
          header = d;
          values = all.values;
          of = subst (λ k. IsOf o b.verified.now.code k p.function.now i d) (sym entry) (subst (λ g. IsOf o b.verified.now.code n g i d) (sym function) is_of);
          entered = entered;
          called = record {
            count = named' ∙ results_many;
            taken = are;
            free = subst (λ us. AreFree s.held us [] results) used_is (subst (λ hs. AreFree hs (names_used taken.given.items) [] results) (sym held) free);
          };
          used = ap (λ (a : Arguments). names_used a.given.items) arguments ∙ used_is;
          none = begun.fresh;
          empty = zeros;
          counts = subst (λ (a : Arguments). Adds begun.fresh a.fresh (λ k. written k gs all.values)) (sym arguments) all.counts;
        }

-- ---- what the plan asks for

pub beyond : (fs : List Function) (n : ℕ) (f : Function) → length fs ≤ n → slice_get fs n ≡ Some f → ⊥
beyond [] n f le e = none-some f e
beyond (g ∷ fs) zero f le e = omega (arith, le)
beyond (g ∷ fs) (suc n) f le e = beyond fs n f (omega (arith, le)) e

pub given_many : (bytes : List ℕ) (as' : List Argument) (gs : List Written) → AreGiven bytes as' gs → length gs ≡ length as'
given_many bytes [] [] h = refl
given_many bytes [] (g ∷ gs) h = absurd h
given_many bytes (a ∷ as') [] h = absurd h
given_many bytes (a ∷ as') (g ∷ gs) h = ap suc (given_many bytes as' gs h.1)

pub can_take_all : (o : Setting) (b : Book) (ls : List Lodged) (n : ℕ) (f : Function) (bytes : List ℕ) → IsBook o b ls → slice_get b.verified.now.code.functions.items n ≡ Some f → IsLine bytes → CanTakeAll b.table.now (types_of f.params) bytes
can_take_all o b ls n f bytes book there line =
    let same : b.verified.now.code.types ≡ b.table.now = book.served.types ∙ sym book.table in
    record {
      sound = subst IsSoundTable same book.served.readable.table;
      known = subst (λ tb. AreTypes tb (types_of f.params)) same (book.served.readable.known n f there);
      line = line;
    }
