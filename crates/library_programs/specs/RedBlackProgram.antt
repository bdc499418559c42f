-- The program of the text `rbtree`, after it is typed.
use Rattle.std.specs.Prelude.{true, false, [], ◌∷◌, None, codes}
use Rattle.fip_language.specs.declared.FunKind.TheVariants.{Fip, Fbip}
use Rattle.fip_language.specs.declared.Operator.TheVariants as O
use Rattle.fip_language.specs.Table.{Table}
use Rattle.fip_trees.specs.Tree.{Constructor, NoArguments, MoreArguments, ConstructorPattern, NoPatterns, MorePatterns}
use Rattle.fip_trees.specs.Tree.{Give, Operation, Call, Match, Last, Let, NoClauses, MoreClauses, Block, Instance}
use Rattle.fip_trees.specs.Tree.{Program}
use Rattle.fip_trees.specs.TreeView.{Case}
use Rattle.library_programs.specs.Parts.{at, bound, var, taken, owned, borrowed}
use Rattle.library_programs.specs.RedBlackInsertion.{insert, search, close}
use Rattle.library_programs.specs.RedBlackGrowth.{grow}

abbrev pub member_1 : Case
member_1 =
    record {
      pattern = ConstructorPattern 2 3 0 (codes "Leaf") (at 63 5 2762) NoPatterns;
      body = Last (Give (Constructor 1 1 0 (codes "False") (at 63 13 2770) NoArguments));
    }

abbrev pub member_2_1 : Case
member_2_1 =
    record {
      pattern = ConstructorPattern 1 1 1 (codes "True") (at 65 7 2807) NoPatterns;
      body =
          Last (Call 4 (codes "member") (at 65 18 2818) (MoreArguments (var 3 (codes "l") (at 65 25 2825))
          (MoreArguments (var 1 (codes "k") (at 65 28 2828)) NoArguments)));
    }

abbrev pub member_2_2_1 : Case
member_2_2_1 =
    record {
      pattern = ConstructorPattern 1 1 1 (codes "True") (at 65 40 2840) NoPatterns;
      body =
          Last (Call 4 (codes "member") (at 65 51 2851) (MoreArguments (var 5 (codes "r") (at 65 58 2858))
          (MoreArguments (var 1 (codes "k") (at 65 61 2861)) NoArguments)));
    }

abbrev pub member_2_2_2 : Case
member_2_2_2 =
    record {
      pattern = ConstructorPattern 1 1 0 (codes "False") (at 65 40 2840) NoPatterns;
      body = Last (Give (Constructor 1 1 1 (codes "True") (at 65 73 2873) NoArguments));
    }

abbrev pub member_2_2 : Case
member_2_2 =
    record {
      pattern = ConstructorPattern 1 1 0 (codes "False") (at 65 7 2807) NoPatterns;
      body =
          Let (bound 7 (codes "_") 1 (at 65 45 2845) ∷ []) (Operation O.Greater (at 65 45 2845) (var 1
          (codes "k") (at 65 43 2843)) (var 4 (codes "x") (at 65 47 2847))) (Last (Match false 1
          (at 65 40 2840) (var 7 (codes "_") (at 65 45 2845)) member_2_2_1.pattern member_2_2_1.body
          (MoreClauses member_2_2_2.pattern member_2_2_2.body NoClauses)));
    }

abbrev pub member_2 : Case
member_2 =
    record {
      pattern =
          ConstructorPattern 2 3 1 (codes "Node") (at 64 5 2781) (MorePatterns (taken 2 (codes "_") 5
          (at 64 10 2786)) (MorePatterns (taken 3 (codes "l") 2 (at 64 13 2789)) (MorePatterns (taken 4
          (codes "x") 0 (at 64 16 2792)) (MorePatterns (taken 5 (codes "r") 2 (at 64 19 2795))
          NoPatterns))));
      body =
          Let (bound 6 (codes "_") 1 (at 65 12 2812) ∷ []) (Operation O.Less (at 65 12 2812) (var 1
          (codes "k") (at 65 10 2810)) (var 4 (codes "x") (at 65 14 2814))) (Last (Match false 1
          (at 65 7 2807) (var 6 (codes "_") (at 65 12 2812)) member_2_1.pattern member_2_1.body (MoreClauses
          member_2_2.pattern member_2_2.body NoClauses)));
    }

abbrev pub member_body : Block
member_body =
    Last (Match false 2 (at 62 3 2748) (var 0 (codes "t") (at 62 9 2754)) member_1.pattern member_1.body
    (MoreClauses member_2.pattern member_2.body NoClauses))

abbrev pub member : Instance
member =
    record {
      name = codes "member";
      place = (at 61 9 2715);
      root = true;
      kind = Fip;
      params = borrowed 2 ∷ owned 0 ∷ [];
      binders = bound 0 (codes "t") 2 (at 61 17 2723) ∷ bound 1 (codes "k") 0 (at 61 24 2730) ∷ [];
      credits = [];
      results = 1 ∷ [];
      results_place = None;
      signature_tuples = [];
      variables = 8;
      body = member_body;
    }

abbrev pub build_body : Block
build_body =
    Last (Match true 6 (at 72 3 3105) (var 0 (codes "keys") (at 72 10 3112)) (ConstructorPattern 6 5 0
    (codes "Nil") (at 73 5 3123) NoPatterns) (Last (Give (var 2 (codes "t") (at 73 12 3130)))) (MoreClauses
    (ConstructorPattern 6 5 1 (codes "Cons") (at 74 5 3137) (MorePatterns (taken 3 (codes "k") 0
    (at 74 10 3142)) (MorePatterns (taken 4 (codes "ks") 6 (at 74 13 3145)) NoPatterns))) (Last (Match true
    7 (at 74 20 3152) (var 1 (codes "pads") (at 74 27 3159)) (ConstructorPattern 7 5 0 (codes "Nil")
    (at 75 7 3172) NoPatterns) (Last (Give (var 2 (codes "t") (at 75 14 3179)))) (MoreClauses
    (ConstructorPattern 7 5 1 (codes "Cons") (at 76 7 3188) (MorePatterns (taken 5 (codes "p") 3
    (at 76 12 3193)) (MorePatterns (taken 6 (codes "ps") 7 (at 76 15 3196)) NoPatterns))) (Let (bound 7
    (codes "s") 2 (at 76 27 3208) ∷ bound 8 (codes "_") 3 (at 76 30 3211) ∷ bound 9 (codes "_") 1
    (at 76 33 3214) ∷ []) (Call 0 (codes "insert") (at 76 38 3219) (MoreArguments (var 2 (codes "t")
    (at 76 45 3226)) (MoreArguments (var 3 (codes "k") (at 76 48 3229)) (MoreArguments (var 5 (codes "p")
    (at 76 51 3232)) NoArguments)))) (Last (Call 5 (codes "build") (at 76 55 3236) (MoreArguments (var 4
    (codes "ks") (at 76 61 3242)) (MoreArguments (var 6 (codes "ps") (at 76 65 3246)) (MoreArguments (var 7
    (codes "s") (at 76 69 3250)) NoArguments)))))) NoClauses))) NoClauses))

abbrev pub build : Instance
build =
    record {
      name = codes "build";
      place = (at 71 10 3050);
      root = true;
      kind = Fbip;
      params = owned 6 ∷ owned 7 ∷ owned 2 ∷ [];
      binders =
          bound 0 (codes "keys") 6 (at 71 16 3056) ∷ bound 1 (codes "pads") 7 (at 71 33 3073) ∷ bound 2
          (codes "t") 2 (at 71 50 3090) ∷ [];
      credits = [];
      results = 2 ∷ [];
      results_place = None;
      signature_tuples = [];
      variables = 10;
      body = build_body;
    }

abbrev pub rbtree_types : Table
rbtree_types =
    (record { name = codes "False"; fields = [] } ∷ record { name = codes "True"; fields = [] } ∷ []) ∷
    (record { name = codes "Leaf"; fields = [] } ∷
    record { name = codes "Node"; fields = 5 ∷ 2 ∷ 0 ∷ 2 ∷ [] } ∷ []) ∷
    (record { name = codes "Pad0"; fields = [] } ∷
    record { name = codes "Pad4"; fields = 0 ∷ 0 ∷ 0 ∷ 0 ∷ [] } ∷ []) ∷
    (record { name = codes "Top"; fields = [] } ∷
    record { name = codes "Left"; fields = 5 ∷ 4 ∷ 0 ∷ 2 ∷ [] } ∷
    record { name = codes "Right"; fields = 5 ∷ 2 ∷ 0 ∷ 4 ∷ [] } ∷ []) ∷
    (record { name = codes "Red"; fields = [] } ∷ record { name = codes "Black"; fields = [] } ∷ []) ∷
    (record { name = codes "Nil"; fields = [] } ∷ record { name = codes "Cons"; fields = 0 ∷ 6 ∷ [] } ∷ [])
    ∷ (record { name = codes "Nil"; fields = [] } ∷ record { name = codes "Cons"; fields = 3 ∷ 7 ∷ [] } ∷
    []) ∷ []

abbrev pub rbtree_program : Program
rbtree_program =
    record {
      types = rbtree_types;
      declaring = 1 ∷ 3 ∷ 4 ∷ 6 ∷ 2 ∷ 5 ∷ 5 ∷ [];
      arities = 0 ∷ 0 ∷ 0 ∷ 0 ∷ 1 ∷ 0 ∷ [];
      field_counts =
          (0 ∷ 0 ∷ []) ∷ (0 ∷ 0 ∷ []) ∷ (0 ∷ 4 ∷ []) ∷ (0 ∷ 4 ∷ []) ∷ (0 ∷ 2 ∷ []) ∷ (0 ∷ 4 ∷ 4 ∷ []) ∷ [];
      instances = insert ∷ search ∷ close ∷ grow ∷ member ∷ build ∷ [];
    }
