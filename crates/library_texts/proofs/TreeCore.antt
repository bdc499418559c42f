-- The core form of the text `tree`, written out, for the proof that its program is the one that is written out.
use Rattle.std.specs.Prelude.{pos, true, false, [], ◌∷◌, codes}
use Rattle.source_report.specs.fip_language.declared.FunKind.TheVariants.{Fip}
use Rattle.source_report.specs.fip_language.declared.Operator.TheVariants as O
use Rattle.source_report.specs.fip_language.Core.{WrittenInt, WrittenName, NoWritten, MoreWritten, OneResult, Literal, Constructor, NoArguments, MoreArguments, BinderPattern, ConstructorPattern, NoPatterns, MorePatterns, Give, Operation, Call, Match, Last, Let, NoClauses, MoreClauses, Block, Function, Data, Core}
use Rattle.library_programs.specs.Parts.{at}
use Rattle.library_texts.proofs.CoreParts.{bound, var}

abbrev increment_body : Block
increment_body = Last (Call (codes "down") (at 16 46 729) NoWritten (MoreArguments (var 0 (codes "t") (at 16 51 734)) (MoreArguments (Constructor (codes "Top") (at 16 54 737) NoArguments) NoArguments)))

abbrev increment : Function
increment = record { kind = Fip; credits = []; name = codes "increment"; place = (at 16 9 692); statics = []; parameters = (record { lent = false; binder = bound 0 (codes "t") (at 16 19 702); type = WrittenName (codes "tree") (at 16 22 705) (MoreWritten (WrittenInt (at 16 27 710)) NoWritten) } ∷ []); result = OneResult (WrittenName (codes "tree") (at 16 34 717) (MoreWritten (WrittenInt (at 16 39 722)) NoWritten)); body = increment_body }

abbrev down_body : Block
down_body = Last (Match true (at 19 3 795) (var 0 (codes "t") (at 19 10 802)) (MoreClauses (ConstructorPattern (codes "Leaf") (at 20 5 810) NoPatterns) (Last (Call (codes "up") (at 20 13 818) NoWritten (MoreArguments (Constructor (codes "Leaf") (at 20 16 821) NoArguments) (MoreArguments (var 1 (codes "w") (at 20 22 827)) NoArguments)))) (MoreClauses (ConstructorPattern (codes "Bin") (at 21 5 835) (MorePatterns (BinderPattern (bound 2 (codes "l") (at 21 9 839))) (MorePatterns (BinderPattern (bound 3 (codes "x") (at 21 12 842))) (MorePatterns (BinderPattern (bound 4 (codes "r") (at 21 15 845))) NoPatterns)))) (Last (Call (codes "down") (at 21 21 851) NoWritten (MoreArguments (var 2 (codes "l") (at 21 26 856)) (MoreArguments (Constructor (codes "Left") (at 21 29 859) (MoreArguments (var 1 (codes "w") (at 21 34 864)) (MoreArguments (var 3 (codes "x") (at 21 37 867)) (MoreArguments (var 4 (codes "r") (at 21 40 870)) NoArguments)))) NoArguments)))) NoClauses)))

abbrev down : Function
down = record { kind = Fip; credits = []; name = codes "down"; place = (at 18 9 753); statics = []; parameters = (record { lent = false; binder = bound 0 (codes "t") (at 18 14 758); type = WrittenName (codes "tree") (at 18 17 761) (MoreWritten (WrittenInt (at 18 22 766)) NoWritten) } ∷ record { lent = false; binder = bound 1 (codes "w") (at 18 28 772); type = WrittenName (codes "way") (at 18 31 775) NoWritten } ∷ []); result = OneResult (WrittenName (codes "tree") (at 18 37 781) (MoreWritten (WrittenInt (at 18 42 786)) NoWritten)); body = down_body }

abbrev up_body : Block
up_body = Last (Match true (at 27 3 943) (var 1 (codes "w") (at 27 10 950)) (MoreClauses (ConstructorPattern (codes "Top") (at 28 5 958) NoPatterns) (Last (Give (var 0 (codes "t") (at 28 12 965)))) (MoreClauses (ConstructorPattern (codes "Left") (at 29 5 972) (MorePatterns (BinderPattern (bound 2 (codes "v") (at 29 10 977))) (MorePatterns (BinderPattern (bound 3 (codes "x") (at 29 13 980))) (MorePatterns (BinderPattern (bound 4 (codes "r") (at 29 16 983))) NoPatterns)))) (Let (bound 5 (codes "y") (at 29 26 993) ∷ []) (Operation O.Add (at 29 32 999) (var 3 (codes "x") (at 29 30 997)) (Literal (pos 1) (at 29 34 1001))) (Last (Call (codes "down") (at 29 37 1004) NoWritten (MoreArguments (var 4 (codes "r") (at 29 42 1009)) (MoreArguments (Constructor (codes "Right") (at 29 45 1012) (MoreArguments (var 0 (codes "t") (at 29 51 1018)) (MoreArguments (var 5 (codes "y") (at 29 54 1021)) (MoreArguments (var 2 (codes "v") (at 29 57 1024)) NoArguments)))) NoArguments))))) (MoreClauses (ConstructorPattern (codes "Right") (at 30 5 1033) (MorePatterns (BinderPattern (bound 6 (codes "l") (at 30 11 1039))) (MorePatterns (BinderPattern (bound 7 (codes "y") (at 30 14 1042))) (MorePatterns (BinderPattern (bound 8 (codes "v") (at 30 17 1045))) NoPatterns)))) (Last (Call (codes "up") (at 30 23 1051) NoWritten (MoreArguments (Constructor (codes "Bin") (at 30 26 1054) (MoreArguments (var 6 (codes "l") (at 30 30 1058)) (MoreArguments (var 7 (codes "y") (at 30 33 1061)) (MoreArguments (var 0 (codes "t") (at 30 36 1064)) NoArguments)))) (MoreArguments (var 8 (codes "v") (at 30 40 1068)) NoArguments)))) NoClauses))))

abbrev up : Function
up = record { kind = Fip; credits = []; name = codes "up"; place = (at 26 9 903); statics = []; parameters = (record { lent = false; binder = bound 0 (codes "t") (at 26 12 906); type = WrittenName (codes "tree") (at 26 15 909) (MoreWritten (WrittenInt (at 26 20 914)) NoWritten) } ∷ record { lent = false; binder = bound 1 (codes "w") (at 26 26 920); type = WrittenName (codes "way") (at 26 29 923) NoWritten } ∷ []); result = OneResult (WrittenName (codes "tree") (at 26 35 929) (MoreWritten (WrittenInt (at 26 40 934)) NoWritten)); body = up_body }

abbrev data_tree : Data
data_tree = record { name = codes "tree"; place = (at 8 6 296); parameters = (record { name = codes "a"; place = (at 8 11 301) } ∷ []); constructors = (record { name = codes "Leaf"; place = (at 8 16 306); fields = [] } ∷ record { name = codes "Bin"; place = (at 8 22 312); fields = (WrittenName (codes "tree") (at 8 26 316) (MoreWritten (WrittenName (codes "a") (at 8 31 321) NoWritten) NoWritten) ∷ WrittenName (codes "a") (at 8 35 325) NoWritten ∷ WrittenName (codes "tree") (at 8 38 328) (MoreWritten (WrittenName (codes "a") (at 8 43 333) NoWritten) NoWritten) ∷ []) } ∷ []) }

abbrev data_way : Data
data_way = record { name = codes "way"; place = (at 13 6 547); parameters = []; constructors = (record { name = codes "Top"; place = (at 13 12 553); fields = [] } ∷ record { name = codes "Left"; place = (at 13 17 558); fields = (WrittenName (codes "way") (at 13 22 563) NoWritten ∷ WrittenInt (at 13 27 568) ∷ WrittenName (codes "tree") (at 13 32 573) (MoreWritten (WrittenInt (at 13 37 578)) NoWritten) ∷ []) } ∷ record { name = codes "Right"; place = (at 13 44 585); fields = (WrittenName (codes "tree") (at 13 50 591) (MoreWritten (WrittenInt (at 13 55 596)) NoWritten) ∷ WrittenInt (at 13 61 602) ∷ WrittenName (codes "way") (at 13 66 607) NoWritten ∷ []) } ∷ []) }

abbrev pub tree_core : Core
tree_core = record { types = (data_tree ∷ data_way ∷ []); functions = (increment ∷ down ∷ up ∷ []) }
