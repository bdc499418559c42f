-- The core form of the text `list`, written out, for the proof that its program is the one that is written out.
use Rattle.std.specs.Prelude.{pos, true, false, [], ◌∷◌, codes}
use Rattle.source_report.specs.fip_language.declared.FunKind.TheVariants.{Fip, Fbip}
use Rattle.source_report.specs.fip_language.declared.Operator.TheVariants as O
use Rattle.source_report.specs.fip_language.Core.{WrittenInt, WrittenName, NoWritten, MoreWritten, OneResult, Literal, Constructor, NoArguments, MoreArguments, BinderPattern, ConstructorPattern, NoPatterns, MorePatterns, Give, Operation, Call, Match, Last, Let, NoClauses, MoreClauses, Block, Function, Data, Core}
use Rattle.library_programs.specs.Parts.{at}
use Rattle.library_texts.proofs.CoreParts.{bound, var}

abbrev back_body : Block
back_body = Last (Match true (at 13 3 501) (var 0 (codes "xs") (at 13 10 508)) (MoreClauses (ConstructorPattern (codes "Nil") (at 13 15 513) NoPatterns) (Last (Give (var 1 (codes "acc") (at 13 22 520)))) (MoreClauses (ConstructorPattern (codes "Cons") (at 13 27 525) (MorePatterns (BinderPattern (bound 2 (codes "x") (at 13 32 530))) (MorePatterns (BinderPattern (bound 3 (codes "t") (at 13 35 533))) NoPatterns))) (Last (Call (codes "back") (at 13 41 539) NoWritten (MoreArguments (var 3 (codes "t") (at 13 46 544)) (MoreArguments (Constructor (codes "Cons") (at 13 49 547) (MoreArguments (var 2 (codes "x") (at 13 54 552)) (MoreArguments (var 1 (codes "acc") (at 13 57 555)) NoArguments))) NoArguments)))) NoClauses)))

abbrev back : Function
back = record { kind = Fip; credits = []; name = codes "back"; place = (at 12 9 450); statics = []; parameters = (record { lent = false; binder = bound 0 (codes "xs") (at 12 14 455); type = WrittenName (codes "list") (at 12 18 459) (MoreWritten (WrittenInt (at 12 23 464)) NoWritten) } ∷ record { lent = false; binder = bound 1 (codes "acc") (at 12 29 470); type = WrittenName (codes "list") (at 12 34 475) (MoreWritten (WrittenInt (at 12 39 480)) NoWritten) } ∷ []); result = OneResult (WrittenName (codes "list") (at 12 46 487) (MoreWritten (WrittenInt (at 12 51 492)) NoWritten)); body = back_body }

abbrev reverse_body : Block
reverse_body = Last (Call (codes "back") (at 16 45 610) NoWritten (MoreArguments (var 0 (codes "xs") (at 16 50 615)) (MoreArguments (Constructor (codes "Nil") (at 16 54 619) NoArguments) NoArguments)))

abbrev reverse : Function
reverse = record { kind = Fip; credits = []; name = codes "reverse"; place = (at 16 9 574); statics = []; parameters = (record { lent = false; binder = bound 0 (codes "xs") (at 16 17 582); type = WrittenName (codes "list") (at 16 21 586) (MoreWritten (WrittenInt (at 16 26 591)) NoWritten) } ∷ []); result = OneResult (WrittenName (codes "list") (at 16 33 598) (MoreWritten (WrittenInt (at 16 38 603)) NoWritten)); body = reverse_body }

abbrev append_body : Block
append_body = Let (bound 2 (codes "front") (at 20 7 729) ∷ []) (Call (codes "back") (at 20 15 737) NoWritten (MoreArguments (var 0 (codes "xs") (at 20 20 742)) (MoreArguments (Constructor (codes "Nil") (at 20 24 746) NoArguments) NoArguments))) (Last (Call (codes "back") (at 21 3 754) NoWritten (MoreArguments (var 2 (codes "front") (at 21 8 759)) (MoreArguments (var 1 (codes "ys") (at 21 15 766)) NoArguments))))

abbrev append : Function
append = record { kind = Fip; credits = []; name = codes "append"; place = (at 19 9 673); statics = []; parameters = (record { lent = false; binder = bound 0 (codes "xs") (at 19 16 680); type = WrittenName (codes "list") (at 19 20 684) (MoreWritten (WrittenInt (at 19 25 689)) NoWritten) } ∷ record { lent = false; binder = bound 1 (codes "ys") (at 19 31 695); type = WrittenName (codes "list") (at 19 35 699) (MoreWritten (WrittenInt (at 19 40 704)) NoWritten) } ∷ []); result = OneResult (WrittenName (codes "list") (at 19 47 711) (MoreWritten (WrittenInt (at 19 52 716)) NoWritten)); body = append_body }

abbrev increment_body : Block
increment_body = Last (Call (codes "raise") (at 25 47 859) NoWritten (MoreArguments (var 0 (codes "xs") (at 25 53 865)) (MoreArguments (Constructor (codes "Nil") (at 25 57 869) NoArguments) NoArguments)))

abbrev increment : Function
increment = record { kind = Fip; credits = []; name = codes "increment"; place = (at 25 9 821); statics = []; parameters = (record { lent = false; binder = bound 0 (codes "xs") (at 25 19 831); type = WrittenName (codes "list") (at 25 23 835) (MoreWritten (WrittenInt (at 25 28 840)) NoWritten) } ∷ []); result = OneResult (WrittenName (codes "list") (at 25 35 847) (MoreWritten (WrittenInt (at 25 40 852)) NoWritten)); body = increment_body }

abbrev raise_body : Block
raise_body = Last (Match true (at 28 3 937) (var 0 (codes "xs") (at 28 10 944)) (MoreClauses (ConstructorPattern (codes "Nil") (at 29 5 953) NoPatterns) (Last (Call (codes "back") (at 29 12 960) NoWritten (MoreArguments (var 1 (codes "acc") (at 29 17 965)) (MoreArguments (Constructor (codes "Nil") (at 29 22 970) NoArguments) NoArguments)))) (MoreClauses (ConstructorPattern (codes "Cons") (at 30 5 980) (MorePatterns (BinderPattern (bound 2 (codes "x") (at 30 10 985))) (MorePatterns (BinderPattern (bound 3 (codes "t") (at 30 13 988))) NoPatterns))) (Let (bound 4 (codes "y") (at 30 23 998) ∷ []) (Operation O.Add (at 30 29 1004) (var 2 (codes "x") (at 30 27 1002)) (Literal (pos 1) (at 30 31 1006))) (Last (Call (codes "raise") (at 30 34 1009) NoWritten (MoreArguments (var 3 (codes "t") (at 30 40 1015)) (MoreArguments (Constructor (codes "Cons") (at 30 43 1018) (MoreArguments (var 4 (codes "y") (at 30 48 1023)) (MoreArguments (var 1 (codes "acc") (at 30 51 1026)) NoArguments))) NoArguments))))) NoClauses)))

abbrev raise : Function
raise = record { kind = Fip; credits = []; name = codes "raise"; place = (at 27 9 885); statics = []; parameters = (record { lent = false; binder = bound 0 (codes "xs") (at 27 15 891); type = WrittenName (codes "list") (at 27 19 895) (MoreWritten (WrittenInt (at 27 24 900)) NoWritten) } ∷ record { lent = false; binder = bound 1 (codes "acc") (at 27 30 906); type = WrittenName (codes "list") (at 27 35 911) (MoreWritten (WrittenInt (at 27 40 916)) NoWritten) } ∷ []); result = OneResult (WrittenName (codes "list") (at 27 47 923) (MoreWritten (WrittenInt (at 27 52 928)) NoWritten)); body = raise_body }

abbrev right_body : Block
right_body = Last (Match true (at 36 3 1131) (var 0 (codes "z") (at 36 10 1138)) (MoreClauses (ConstructorPattern (codes "Zip") (at 37 5 1146) (MorePatterns (BinderPattern (bound 1 (codes "xs") (at 37 9 1150))) (MorePatterns (ConstructorPattern (codes "Cons") (at 37 13 1154) (MorePatterns (BinderPattern (bound 2 (codes "y") (at 37 18 1159))) (MorePatterns (BinderPattern (bound 3 (codes "ys") (at 37 21 1162))) NoPatterns))) NoPatterns))) (Last (Give (Constructor (codes "Zip") (at 37 29 1170) (MoreArguments (Constructor (codes "Cons") (at 37 33 1174) (MoreArguments (var 2 (codes "y") (at 37 38 1179)) (MoreArguments (var 1 (codes "xs") (at 37 41 1182)) NoArguments))) (MoreArguments (var 3 (codes "ys") (at 37 46 1187)) NoArguments))))) (MoreClauses (ConstructorPattern (codes "Zip") (at 38 5 1196) (MorePatterns (BinderPattern (bound 4 (codes "xs") (at 38 9 1200))) (MorePatterns (ConstructorPattern (codes "Nil") (at 38 13 1204) NoPatterns) NoPatterns))) (Last (Give (Constructor (codes "Zip") (at 38 21 1212) (MoreArguments (var 4 (codes "xs") (at 38 25 1216)) (MoreArguments (Constructor (codes "Nil") (at 38 29 1220) NoArguments) NoArguments))))) NoClauses)))

abbrev right : Function
right = record { kind = Fip; credits = []; name = codes "right"; place = (at 35 9 1102); statics = []; parameters = (record { lent = false; binder = bound 0 (codes "z") (at 35 15 1108); type = WrittenName (codes "zipper") (at 35 18 1111) NoWritten } ∷ []); result = OneResult (WrittenName (codes "zipper") (at 35 27 1120) NoWritten); body = right_body }

abbrev plug_body : Block
plug_body = Last (Match true (at 45 3 1398) (var 0 (codes "z") (at 45 10 1405)) (MoreClauses (ConstructorPattern (codes "Zip") (at 45 14 1409) (MorePatterns (BinderPattern (bound 1 (codes "xs") (at 45 18 1413))) (MorePatterns (BinderPattern (bound 2 (codes "ys") (at 45 22 1417))) NoPatterns))) (Last (Call (codes "back") (at 45 29 1424) NoWritten (MoreArguments (var 1 (codes "xs") (at 45 34 1429)) (MoreArguments (var 2 (codes "ys") (at 45 38 1433)) NoArguments)))) NoClauses))

abbrev plug : Function
plug = record { kind = Fbip; credits = []; name = codes "plug"; place = (at 44 10 1367); statics = []; parameters = (record { lent = false; binder = bound 0 (codes "z") (at 44 15 1372); type = WrittenName (codes "zipper") (at 44 18 1375) NoWritten } ∷ []); result = OneResult (WrittenName (codes "list") (at 44 27 1384) (MoreWritten (WrittenInt (at 44 32 1389)) NoWritten)); body = plug_body }

abbrev data_list : Data
data_list = record { name = codes "list"; place = (at 7 6 282); parameters = (record { name = codes "a"; place = (at 7 11 287) } ∷ []); constructors = (record { name = codes "Nil"; place = (at 7 16 292); fields = [] } ∷ record { name = codes "Cons"; place = (at 7 21 297); fields = (WrittenName (codes "a") (at 7 26 302) NoWritten ∷ WrittenName (codes "list") (at 7 29 305) (MoreWritten (WrittenName (codes "a") (at 7 34 310) NoWritten) NoWritten) ∷ []) } ∷ []) }

abbrev data_zipper : Data
data_zipper = record { name = codes "zipper"; place = (at 10 6 404); parameters = []; constructors = (record { name = codes "Zip"; place = (at 10 15 413); fields = (WrittenName (codes "list") (at 10 19 417) (MoreWritten (WrittenInt (at 10 24 422)) NoWritten) ∷ WrittenName (codes "list") (at 10 30 428) (MoreWritten (WrittenInt (at 10 35 433)) NoWritten) ∷ []) } ∷ []) }

abbrev pub list_core : Core
list_core = record { types = (data_list ∷ data_zipper ∷ []); functions = (back ∷ reverse ∷ append ∷ increment ∷ raise ∷ right ∷ plug ∷ []) }
