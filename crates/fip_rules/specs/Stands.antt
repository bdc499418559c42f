-- For the proofs alone: where the walk is, and what each of its steps does.
use Rattle.std.specs.Prelude.{◌≤◌, ℕ, suc, List, [], ◌∷◌, ◌++◌, map, take, drop, filter, Option, Some, None, Bool}
use Rattle.std.specs.Prelude.{◌==◌, if◌then◌else◌}
use Rattle.fip_trees.specs.declared.least.Violation.{Violation}
use Rattle.fip_trees.specs.Least.{after}
use Rattle.fip_trees.specs.Tree.{Clauses, NoClauses, MoreClauses}
use Rattle.fip_rules.specs.Marks.{Mark, Entry, Breach, reported}
use Rattle.fip_rules.specs.Shape as S
use Rattle.fip_rules.specs.Rules.{next}
use Rattle.fip_rules.specs.Notes.{or_else, has, Walked, enter, deeper, run, notes, waits, exposed, missed}
use Rattle.fip_rules.specs.World.{World}
use Rattle.fip_rules.specs.Shapes.{Names, Bind, mark, taking, binders, clause_shape, shape_block}

pub record Stand : Type 0 where
  pub instance : ℕ
  pub fip : Bool
  pub found : Option Violation
  pub walked : Walked
  pub waiting : List Mark
  pub next : ℕ

abbrev pub marks_of : List Entry → List Mark
marks_of [] = []
marks_of (e ∷ es) = e.mark ∷ marks_of es

abbrev pub marks : Stand → List Mark
marks t = marks_of t.walked.scope

abbrev pub names : Stand → Names
names t = record { marks = marks t; next = t.next }

-- the innermost variable of a number
abbrev pub find : List Entry → ℕ → Option Entry
find [] x = None
find (e ∷ es) x = or_else (if e.mark.number == x then Some e else None) (find es x)

-- what variables in scope are known by rises from k on, and is below n
abbrev pub Rises : ℕ → List Entry → ℕ → Type 0
Rises k [] n = k ≤ n
Rises k (e ∷ es) n = (k ≤ e.mark.id) × Rises (suc e.mark.id) es n

abbrev pub noted : Stand → List Breach → Stand
noted t vs =
    record {
      instance = t.instance;
      fip = t.fip;
      found = after t.found (map reported vs);
      walked = t.walked;
      waiting = t.waiting;
      next = t.next;
    }

-- goes over a part
unfoldable pub go : Stand → S.Shape → Stand
go t e =
    record {
      instance = t.instance;
      fip = t.fip;
      found = after t.found (map reported (notes t.instance t.fip t.walked e));
      walked = run t.walked e;
      waiting = t.waiting ++ waits t.walked.scope t.walked.level e;
      next = next t.next e;
    }

abbrev pub entered : Stand → Bind → Stand
entered t b =
    record {
      instance = t.instance;
      fip = t.fip;
      found = t.found;
      walked = enter t.walked b.ownership (mark t.next b.binder);
      waiting = t.waiting;
      next = suc t.next;
    }

abbrev pub entered_all : Stand → List Bind → Stand
entered_all t [] = t
entered_all t (b ∷ bs) = entered_all (entered t b) bs

-- innermost first
abbrev pub missed_from : ℕ → Bool → List Entry → List ℕ → List Breach
missed_from i fip [] xs = []
missed_from i fip (e ∷ es) xs = missed_from i fip es xs ++ missed i fip e.ownership e.mark xs

abbrev pub with_scope : List Entry → Walked → Walked
with_scope es s = record { scope = es; level = s.level; used = s.used; always = s.always }

-- all but the first variables leave scope
abbrev pub left_to : ℕ → Stand → Stand
left_to kept t =
    record {
      instance = t.instance;
      fip = t.fip;
      found = after t.found (map reported (missed_from t.instance t.fip (drop kept t.walked.scope) t.walked.always));
      walked = with_scope (take kept t.walked.scope) t.walked;
      waiting = t.waiting;
      next = t.next;
    }

-- into a bound expression, and out of it
abbrev pub deepened : Stand → Stand
deepened t =
    record {
      instance = t.instance;
      fip = t.fip;
      found = t.found;
      walked = deeper t.walked;
      waiting = t.waiting;
      next = t.next;
    }

abbrev pub with_level : ℕ → Walked → Walked
with_level l s = record { scope = s.scope; level = l; used = s.used; always = s.always }

abbrev pub surfaced : ℕ → ℕ → ℕ → Stand → Stand
surfaced l kw ku t =
    record {
      instance = t.instance;
      fip = t.fip;
      found = after t.found (map reported (exposed t.instance (drop kw t.waiting) (drop ku t.walked.used)));
      walked = with_level l t.walked;
      waiting = take kw t.waiting;
      next = t.next;
    }

abbrev pub with_used : List ℕ → List ℕ → Walked → Walked
with_used us xs s = record { scope = s.scope; level = s.level; used = us; always = xs }

abbrev pub with_walked : Walked → Stand → Stand
with_walked s t =
    record {
      instance = t.instance;
      fip = t.fip;
      found = t.found;
      walked = s;
      waiting = t.waiting;
      next = t.next;
    }

-- one more use, on each path
abbrev pub kept_use : ℕ → Stand → Stand
kept_use i t = with_walked (with_used (t.walked.used ++ i ∷ []) (t.walked.always ++ i ∷ []) t.walked) t

-- more borrowing occurrences wait
abbrev pub awaiting : Stand → List Mark → Stand
awaiting t ms =
    record {
      instance = t.instance;
      fip = t.fip;
      found = t.found;
      walked = t.walked;
      waiting = t.waiting ++ ms;
      next = t.next;
    }

-- what was used up since then is taken aside
abbrev pub aside : ℕ → ℕ → Stand → Stand
aside ku ka t = with_walked (with_used (take ku t.walked.used) (take ka t.walked.always) t.walked) t

-- and comes back
abbrev pub back : List ℕ → List ℕ → Stand → Stand
back later sure t = with_walked (with_used (t.walked.used ++ later) (t.walked.always ++ sure) t.walked) t

-- goes over a clause
abbrev pub went : Stand → List Bind → (Names → S.Shape) → Stand
went t bs body = go t (clause_shape (names t) bs body)

-- what of a list was used up on every path since then
abbrev pub still : ℕ → Stand → List ℕ → List ℕ
still ka t sure = filter (λ x. has (drop ka t.walked.always) x) sure

-- the clauses that are left, after others that used `later` on some path and `sure` on every path
abbrev pub others : World → Bool → ℕ → ℕ → Stand → List ℕ → List ℕ → Clauses → Stand
others w taken ku ka t later sure NoClauses = back later sure t
others w taken ku ka t later sure (MoreClauses p body cs) =
    others w taken ku ka
    (aside ku ka (went t (taking w taken (binders p)) (λ d. shape_block w d body)))
    (later ++ drop ku (went t (taking w taken (binders p)) (λ d. shape_block w d body)).walked.used)
    (still ka (went t (taking w taken (binders p)) (λ d. shape_block w d body)) sure)
    cs
