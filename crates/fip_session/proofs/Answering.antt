-- From the parts of a call's end to its answer.
use Rattle.std.proofs.Common.{◌≡◌, ◌⊎◌, inl, inr, ◌∙◌, ℕ, zero, suc, ◌+◌, ◌-◌, ◌^◌, ◌<◌, ◌≤◌, List, [], ◌∷◌, ◌++◌, length, map, Option, Some, None, refl, sym, ap, subst, arith}
use Rattle.std.specs.Prelude.{IfSome}
use Rattle.std.proofs.lemmas.Option.{none-some}
use Rattle.std.specs.BTreeMap.{BTreeMap}
use Rattle.std.specs.declared.alloc.Global.{Global}
use Rattle.std.specs.declared.vec.Vec.{Vec}
use Rattle.cell_code.specs.declared.code.Code.{Code}
use Rattle.cell_code.specs.declared.code.Function.{Function}
use Rattle.cell_store.specs.Cells as L
use Rattle.cell_store.specs.Made.{Loading, Stored}
use Rattle.fip_language.specs.Core.{Name}
use Rattle.fip_language.specs.Every.{Every}
use Rattle.fip_language.specs.Store.{Cell, Parts, NoParts, MoreParts, words_of, count, uses_of_all}
use Rattle.fip_language.specs.Table.{Table}
use Rattle.fip_language.specs.Values.{Values}
use Rattle.fip_machine.specs.machine_cells.Small.{store_of}
use Rattle.fip_machine.specs.declared.machine.Ended.{Ended}
use Rattle.fip_machine.specs.declared.machine.Ended.TheVariants as M
use Rattle.cell_code.specs.Plain.{plain}
use Rattle.session_correctness.specs.tree_refinement.machine_semantics.Cells.{Store, IsStore, there, released_at}
use Rattle.session_correctness.specs.tree_refinement.machine_semantics.Steps.{Kinds}
use Rattle.session_correctness.specs.tree_refinement.machine_semantics.Trees as C
use Rattle.session_correctness.specs.tree_refinement.separation.Codes.{AreKinds}
use Rattle.session_correctness.specs.Called.{IsGivenUp, IsSwept}
use Rattle.session_correctness.specs.Calling.{gone}
use Rattle.session_correctness.specs.Lodging.{Lodged, lodged_uses, lodge_all, but_all, fresh_uses, used_uses, lent_fresh_uses}
use Rattle.session_correctness.proofs.Calls.{bare}
use Rattle.session_lines.specs.instance_semantics.fip_trees.Tree.{Instance}
use Rattle.session_lines.specs.session_semantics.Lines.{Given as Written}
use Rattle.session_lines.specs.session_semantics.Talk.{Setting, State, free_frames, ok_text, running}
use Rattle.value_text.specs.Loaded.{types_of, AreZero, cell_words}
use Rattle.fip_session.specs.Answered.{GivesNone, GivesValues, IsAnswered}
use Rattle.fip_session.specs.After.{IsBegun, IsAfter, IsKept}
use Rattle.fip_session.specs.Came.{Came}
use Rattle.fip_session.specs.Gone.{fresh_trees, all_uses, named_uses, lent_of}
use Rattle.fip_session.specs.Planned.{Finds}
use Rattle.fip_session.specs.Readied.{fresh_list}
use Rattle.fip_session.specs.Said.{said}
use Rattle.fip_session.specs.declared.book.Held.{Held}
use Rattle.fip_session.specs.declared.ready.Ready.{Ready}
use Rattle.fip_session.specs.declared.reply.Reply.{Reply}
use Rattle.fip_session.specs.declared.reply.Reply.TheVariants as R
use Rattle.fip_session.proofs.After as B
use Rattle.fip_session.proofs.GivingUp.{up_same, fresh_are, used_are, lent_are}
use Rattle.fip_session.proofs.Starting as S
use Rattle.fip_session.proofs.Stores.{stand_all}

-- ---- the places of credits' cells are places of the store

cell_far : (cs : L.Cells) (p : ℕ) (c : Cell) → L.cell_at cs p ≡ Some c → p < length cs
cell_far [] p c e = absurd (none-some c e)
cell_far (o ∷ os) zero c e = omega arith
cell_far (o ∷ os) (suc p) c e = (let h = cell_far os p c e in omega (arith, h))

pub places_within : (cs : L.Cells) (ps ks : List ℕ) → length cs ≤ 16777216 → AreZero cs ps ks → Every (λ p. p ≤ 2 ^ 32 - 1) ps
places_within cs [] ks le h = tt
places_within cs (p ∷ ps) [] le h = absurd h
places_within cs (p ∷ ps) (k ∷ ks) le h = ((let w = cell_far cs p _ h.0 in omega (arith, w, le)), places_within cs ps ks le h.1)

words_many : (tb : Table) (s : Store) (ts : List ℕ) (xs : Parts) → C.StandAll tb s ts xs → length ts ≡ length (words_of xs)
words_many tb s [] NoParts h = refl
words_many tb s [] (MoreParts x xs) h = absurd h
words_many tb s (t ∷ ts) NoParts h = absurd h
words_many tb s (t ∷ ts) (MoreParts x xs) h = ap suc (words_many tb s ts xs h.1)

module _ (o : Setting) (s : State) (code : Code) (ls : List Lodged) (names : List Name) (n : ℕ) (f : Function) (i : ℕ) (d : Instance) (gs : List Written) (vs : Values) (old new : Loading) (r : Ready) (b : IsBegun o s code ls names n f i d gs vs old new r) where
  abbrev pub xs : Parts
  xs = b.ready.trees

  abbrev pub used : List Name
  used = B.used o s code ls names n f i d gs vs old new r b

  -- before the run
  pub fresh_apart : (q : ℕ) → all_uses (fresh_trees gs xs) q + named_uses ls used q ≤ there (store_of new.cells new.released) q
  fresh_apart q =
      let a = fresh_are gs xs q in
      let u = used_are code.types ls [] f.params gs xs q b.ready.given (bare code.types (store_of new.cells new.released) f.params xs (stand_all code.types (store_of new.cells new.released) b.store.sized (types_of f.params) xs b.ready.stand)) in
      let z = S.all_apart code n f b.of.there b.served.sound b.served.literals ls gs vs old new r b.kept.distinct b.kept.held b.store b.ready q in
      omega (arith, a, u, z)

  module _ (before waits : Kinds) (kinds : AreKinds (plain code) before waits) (frames : ℕ) (frames_are : frames ≡ free_frames o i) (e : Ended) (given : List ℕ) (u : Store) (came : Came (plain code) before (B.state o s code ls names n f i d gs vs old new r b frames) o.calls e given u) (cells : Stored) where
    abbrev as_loading : Loading
    as_loading = record { cells = cells.cells; released = cells.released; left = 0 }

    small_of : cells.cells ≡ u.cells → length cells.cells ≤ 16777216
    small_of e' =
        let l = B.long_u o s code ls names n f i d gs vs old new r b before waits kinds frames frames_are e given u came in
        let m = ap length e' in
        let le = b.small in
        omega (arith, l, m, le)

    gone_is : (q : ℕ) → gone (B.call o s code ls names n f i d gs vs old new r b before waits kinds frames) q ≡ (all_uses (fresh_trees gs xs) q + named_uses ls used q) + count q b.ready.spares
    gone_is q =
        let a = fresh_are gs xs q in
        let v = used_are code.types ls [] f.params gs xs q b.ready.given (bare code.types (store_of new.cells new.released) f.params xs (stand_all code.types (store_of new.cells new.released) b.store.sized (types_of f.params) xs b.ready.stand)) in
        omega (arith, a, v)

    pub answered_end : (not : e ≡ M.Value → ⊥) (held : BTreeMap (Vec ℕ Global) Held) (calls frames' : ℕ) (reply : Reply) → reply ≡ R.NoValue e calls frames' → calls ≡ o.calls → frames' ≡ frames → Finds held (but_all used ls) → IsGivenUp (λ q. (all_uses (fresh_trees gs xs) q + named_uses ls used q) + count q b.ready.spares) u (store_of cells.cells cells.released) ⊎ IsSwept (lodged_uses (but_all used ls)) u (store_of cells.cells cells.released) → IsAnswered o s code.types names i d gs vs held cells reply
    answered_end not held calls frames' reply is calls_are frames_same finds up =
        inr (subst (λ x. GivesNone o s code.types i d gs vs held cells x) (sym is ∙ refl)
        (subst (λ c. GivesNone o s code.types i d gs vs held cells (R.NoValue e c frames')) (sym calls_are)
        (subst (λ m. GivesNone o s code.types i d gs vs held cells (R.NoValue e o.calls m)) (sym frames_same)
        (record {
          text = B.text o s code ls names n f i d gs vs old new r b before waits kinds frames frames_are e given u came not;
          following = by up;
        }))))
      where
        by : IsGivenUp (λ q. (all_uses (fresh_trees gs xs) q + named_uses ls used q) + count q b.ready.spares) u (store_of cells.cells cells.released) ⊎ IsSwept (lodged_uses (but_all used ls)) u (store_of cells.cells cells.released) → IsAfter code.types held cells (running o s d gs vs)
        by (inl g) = record {
          lodged = but_all used ls;
          finds = finds;
          kept = B.kept_up o s code ls names n f i d gs vs old new r b before waits kinds frames frames_are e given u came not as_loading (up_same (λ q. (all_uses (fresh_trees gs xs) q + named_uses ls used q) + count q b.ready.spares) (gone (B.call o s code ls names n f i d gs vs old new r b before waits kinds frames)) u (store_of cells.cells cells.released) gone_is g);
          small = small_of g.cells;
        }
        by (inr w) = record {
          lodged = but_all used ls;
          finds = finds;
          kept = B.kept_swept o s code ls names n f i d gs vs old new r b before waits kinds frames frames_are e given u came not as_loading w;
          small = small_of w.cells;
        }

    module _ (is : e ≡ M.Value) where
      abbrev pub results : B.HasResults o s code ls names n f i d gs vs old new r b before waits kinds frames frames_are e given u came
      results = B.has_results o s code ls names n f i d gs vs old new r b before waits kinds frames frames_are e given u came is

      pub results_many : length f.results ≡ length given
      results_many = words_many code.types u f.results results.trees results.many ∙ ap length (sym results.words)

      pub names_many : length names ≡ length f.results
      names_many = b.fits.called.count ∙ ap length (sym b.of.results)

      pub answered_value : (held : BTreeMap (Vec ℕ Global) Held) (reply : Reply) → reply ≡ R.Done → Finds held (but_all used ls ++ lodge_all names f.results results.trees) → IsGivenUp (lent_of (fresh_list f.params gs xs) (fresh_trees gs xs)) u (store_of cells.cells cells.released) → IsAnswered o s code.types names i d gs vs held cells reply
      answered_value held reply done finds up = inl (record {
        values = results.values;
        calls = results.calls;
        answer = results.answer;
        text = ap said done;
        following = record {
          lodged = but_all used ls ++ lodge_all names f.results results.trees;
          finds = finds;
          kept = results.kept as_loading (up_same (lent_of (fresh_list f.params gs xs) (fresh_trees gs xs)) (λ q. lent_fresh_uses f.params gs xs q) u (store_of cells.cells cells.released) (λ q. sym (lent_are f.params gs xs q)) up);
          small = small_of up.cells;
        };
      })
