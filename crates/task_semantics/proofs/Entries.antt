-- An entry that is given the same arguments alone and in a shared store, where its cells are renamed, begins in states
-- of which the one is that of the task alone.
use Rattle.std.proofs.Common.{◌≡◌, ℕ, zero, suc, ◌+◌, ◌-◌, Bool, true, false, ◌&&◌, not, List, [], ◌∷◌, ◌++◌, length, map, Some, None, inl, refl, sym, ap, subst, arith, if◌then◌else◌}
use Rattle.std.specs.Prelude.{replicate}
use Rattle.run_loading.specs.fip_base.declared.plain.Param.{Param}
use Rattle.run_loading.specs.fip_language.Store.{Parts, NoParts, MoreParts, word_of, words_of}
use Rattle.run_loading.specs.fip_language.Table.{Table, is_scalar}
use Rattle.run_loading.specs.cell_code.declared.kind.Kind.{Kind}
use Rattle.run_loading.specs.cell_code.declared.kind.Kind.TheVariants.{Scalar, Owned, Lent, Credit}
use Rattle.run_loading.specs.machine_semantics.Cells.{Store}
use Rattle.run_loading.specs.machine_semantics.Runs.{lent_words}
use Rattle.run_loading.specs.machine_semantics.States.{State, Typed}
use Rattle.run_loading.specs.machine_semantics.Steps.{Kinds, first_words, first_frame}
use Rattle.run_loading.specs.machine_semantics.Trees.{StandAll}
use Rattle.run_loading.specs.machine_semantics.Words.{place_word}
use Rattle.run_loading.specs.code_rules.Breaks.{IsSound}
use Rattle.run_loading.specs.cell_code.Plain.{PlainFunction, PlainCode, function_at}
use Rattle.run_loading.specs.code_rules.Entry.{param_kind, gones, entry}
use Rattle.run_loading.specs.code_rules.Types.{is_scalar_type, all}
use Rattle.run_loading.proofs.separation_kinds.Basics.{pick, chosen, length_map}
use Rattle.run_loading.specs.separation.Codes.{AreKinds}
use Rattle.run_loading.proofs.separation.Calling.{known_entry, length_append}
use Rattle.run_loading.proofs.separation.Sound.{formed, has_form}
use Rattle.task_semantics.specs.Projected.{Renaming, renamed, renamed_parts, AreRenamed, IsRenamedTree, IsRenamedWord, AreRenamedWords, AreRenamedArguments, IsProjected}
use Rattle.task_semantics.proofs.AlikeWords.{field_alike}
use Rattle.task_semantics.proofs.Renamings.{place_renamed}

-- the state in which function n begins
abbrev pub first_state : PlainCode → ℕ → PlainFunction → Store → List ℕ → ℕ → State
first_state c n g store words frames = record {
  store = store;
  running = first_frame n g words;
  waiting = [];
  free = frames;
  lent = lent_words c.types g.params words;
}

-- the words of trees, and after them those of cells
abbrev pub given_words : Parts → List ℕ → List ℕ
given_words xs ps = words_of xs ++ map (λ p. place_word p) ps

module _ (tb : Table) (f : Renaming) (own shared : Store) where
  -- ---- a parameter's word

  param_alike : (p : Param) (w v : ℕ) → IsRenamedTree tb f own shared p.ty w v → IsRenamedWord tb f own shared (param_kind tb p) w v
  param_alike p w v i = pick (λ k. IsRenamedWord tb f own shared k w v) (is_scalar_type tb p.ty) (Scalar p.ty) (if p.lent then Lent p.ty (all tb p.ty) None None else Owned p.ty (all tb p.ty))
      (λ e. subst (λ k. IsRenamedWord tb f own shared k w v) (chosen (is_scalar_type tb p.ty) (Scalar p.ty) (Owned p.ty (all tb p.ty)) e) (field_alike tb f own shared p.ty w v i))
      (λ e. pick (λ k. IsRenamedWord tb f own shared k w v) p.lent (Lent p.ty (all tb p.ty) None None) (Owned p.ty (all tb p.ty)) (λ l. i) (λ l. i))

  credits_alike : (ks ps : List ℕ) → length ps ≡ length ks → AreRenamedWords tb f own shared (map Credit ks) (map (λ p. place_word p) ps) (map (λ p. place_word p) (map f ps))
  credits_alike [] [] l = tt
  credits_alike [] (p ∷ ps) l = absurd (omega (arith, l))
  credits_alike (k ∷ ks) [] l = absurd (omega (arith, l))
  credits_alike (k ∷ ks) (p ∷ ps) l = (place_renamed f p (place_word p) refl, credits_alike ks ps (omega (arith, l)))

  given_alike : (qs : List Param) (xs : Parts) (ks ps : List ℕ) → StandAll tb own (map (λ q. q.ty) qs) xs → StandAll tb shared (map (λ q. q.ty) qs) (renamed_parts f xs) → length ps ≡ length ks → AreRenamedWords tb f own shared (map (param_kind tb) qs ++ map Credit ks) (given_words xs ps) (given_words (renamed_parts f xs) (map f ps))
  given_alike [] NoParts ks ps g h l = credits_alike ks ps l
  given_alike [] (MoreParts x xs) ks ps g h l = absurd g
  given_alike (q ∷ qs) NoParts ks ps g h l = absurd g
  given_alike (q ∷ qs) (MoreParts x xs) ks ps g h l = (
    param_alike q (word_of x) (word_of (renamed f x)) (record { tree = x; alone = record { word = refl; stands = g.0 }; among = record { word = refl; stands = h.0 } }),
    given_alike qs xs ks ps g.1 h.1 l,
  )

  -- ---- all registers

  gone_alike : (m : ℕ) → AreRenamedWords tb f own shared (gones m) (replicate m 0) (replicate m 0)
  gone_alike zero = tt
  gone_alike (suc m) = (inl refl, gone_alike m)

  with_gone : (ks : List Kind) (ws vs : List ℕ) (m : ℕ) → AreRenamedWords tb f own shared ks ws vs → AreRenamedWords tb f own shared (ks ++ gones m) (ws ++ replicate m 0) (vs ++ replicate m 0)
  with_gone [] [] [] m h = gone_alike m
  with_gone [] [] (v ∷ vs) m h = absurd h
  with_gone [] (w ∷ ws) vs m h = absurd h
  with_gone (k ∷ ks) [] vs m h = absurd h
  with_gone (k ∷ ks) (w ∷ ws) [] m h = absurd h
  with_gone (k ∷ ks) (w ∷ ws) (v ∷ vs) m h = (h.0, with_gone ks ws vs m h.1)

  first_alike : (ks : List Kind) (ws vs : List ℕ) (registers number : ℕ) → length ws ≡ number → length vs ≡ number → AreRenamedWords tb f own shared ks ws vs → AreRenamedWords tb f own shared (ks ++ gones (registers - number)) (first_words registers ws) (first_words registers vs)
  first_alike ks ws vs registers number d e h =
      subst (λ m. AreRenamedWords tb f own shared (ks ++ gones (registers - number)) (ws ++ replicate (registers - m) 0) (first_words registers vs)) (sym d)
      (subst (λ m. AreRenamedWords tb f own shared (ks ++ gones (registers - number)) (ws ++ replicate (registers - number) 0) (vs ++ replicate (registers - m) 0)) (sym e)
      (with_gone ks ws vs (registers - number) h))

  -- ---- borrowed arguments

  lent_one : (b : Bool) (t w v : ℕ) (ts us : List Typed) → IsRenamedTree tb f own shared t w v → AreRenamedArguments tb f own shared ts us → AreRenamedArguments tb f own shared (if b then record { type = t; word = w } ∷ ts else ts) (if b then record { type = t; word = v } ∷ us else us)
  lent_one true t w v ts us i h = (refl, i, h)
  lent_one false t w v ts us i h = h

  lent_alike : (qs : List Param) (xs : Parts) (ws vs : List ℕ) → StandAll tb own (map (λ q. q.ty) qs) xs → StandAll tb shared (map (λ q. q.ty) qs) (renamed_parts f xs) → AreRenamedArguments tb f own shared (lent_words tb qs (words_of xs ++ ws)) (lent_words tb qs (words_of (renamed_parts f xs) ++ vs))
  lent_alike [] xs ws vs g h = tt
  lent_alike (q ∷ qs) NoParts ws vs g h = absurd g
  lent_alike (q ∷ qs) (MoreParts x xs) ws vs g h =
      lent_one (q.lent && not (is_scalar tb q.ty)) q.ty (word_of x) (word_of (renamed f x)) (lent_words tb qs (words_of xs ++ ws)) (lent_words tb qs (words_of (renamed_parts f xs) ++ vs))
      (record { tree = x; alone = record { word = refl; stands = g.0 }; among = record { word = refl; stands = h.0 } })
      (lent_alike qs xs ws vs g.1 h.1)

  -- ---- numbers

  stand_long : (ts : List ℕ) (xs : Parts) → StandAll tb own ts xs → length (words_of xs) ≡ length ts
  stand_long [] NoParts g = refl
  stand_long [] (MoreParts x xs) g = absurd g
  stand_long (t ∷ ts) NoParts g = absurd g
  stand_long (t ∷ ts) (MoreParts x xs) g = ap suc (stand_long ts xs g.1)

renamed_long : (f : Renaming) (xs : Parts) → length (words_of (renamed_parts f xs)) ≡ length (words_of xs)
renamed_long f NoParts = refl
renamed_long f (MoreParts x xs) = ap suc (renamed_long f xs)

given_long : (xs : Parts) (ps : List ℕ) → length (given_words xs ps) ≡ length (words_of xs) + length ps
given_long xs ps = let a = length_append (words_of xs) (map (λ p. place_word p) ps) in let b = length_map (λ p. place_word p) ps in omega (arith, a, b)

-- ---- the state

pub first_projected : (f : Renaming) (c : PlainCode) (before waits : Kinds) (own shared : Store) (n : ℕ) (g : PlainFunction) (xs : Parts) (ps : List ℕ) (frames : ℕ) → IsSound c → AreKinds c before waits → function_at c n ≡ Some g → AreRenamed f own shared → StandAll c.types own (map (λ q. q.ty) g.params) xs → StandAll c.types shared (map (λ q. q.ty) g.params) (renamed_parts f xs) → length ps ≡ length g.credits → IsProjected before waits c f (first_state c n g own (given_words xs ps) frames) (first_state c n g shared (given_words (renamed_parts f xs) (map f ps)) frames)
first_projected f c before waits own shared n g xs ps frames sound kinds is cells here there number =
    let ws : List ℕ = given_words xs ps in
    let vs : List ℕ = given_words (renamed_parts f xs) (map f ps) in
    let all : ℕ = length g.params + length g.credits in
    let trees = stand_long c.types f own shared (map (λ q. q.ty) g.params) xs here in
    let types = length_map (λ (q : Param). q.ty) g.params in
    let long = given_long xs ps in
    let mates = given_long (renamed_parts f xs) (map f ps) in
    let even = renamed_long f xs in
    let places = length_map f ps in
    let d : length ws ≡ all = omega (arith, trees, types, long, number) in
    let e : length vs ≡ all = omega (arith, trees, types, mates, even, places, number) in
    let known : before n 0 ≡ entry c g = kinds.known n 0 g (entry c g) is (known_entry c g (has_form c g (formed c n g sound is))) in
    let words : AreRenamedWords c.types f own shared (entry c g) (first_words g.registers ws) (first_words g.registers vs) =
    first_alike c.types f own shared (map (param_kind c.types) g.params ++ map Credit g.credits) ws vs g.registers all d e
    (given_alike c.types f own shared g.params xs g.credits ps here there number) in
    record {
      cells = cells;
      running = record {
        function = refl;
        at = refl;
        words = subst (λ ks. AreRenamedWords c.types f own shared ks (first_words g.registers ws) (first_words g.registers vs)) (sym known) words;
      };
      waiting = tt;
      free = refl;
      lent = lent_alike c.types f own shared g.params xs (map (λ p. place_word p) ps) (map (λ p. place_word p) (map f ps)) here there;
    }
