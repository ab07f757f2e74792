-- Private names (Python Reference, "Identifiers (Names)"): in a class, a name that begins with two underscores and does not
-- end in two is entered with the class's name before it.
use Rattle.std.specs.Prelude.{ℕ, Bool, false, cond, not, ◌&&◌, ◌||◌, List, [], ◌∷◌, ◌++◌, reverse, Some, None, Option, ◌==◌}
use denote.Bor.{Bor}
use Rattle.store.specs.declared.cursor.Cursor.{Cursor}
use Rattle.store.specs.declared.mangle.Mangled.{Mangled}

-- the byte of an underscore
abbrev pub underscore : ℕ
underscore = 95

-- begins with two underscores
abbrev pub begins_with_two : List ℕ → Bool
begins_with_two [] = false
begins_with_two (a ∷ []) = false
begins_with_two (a ∷ b ∷ bs) = a == underscore && b == underscore

-- ends in two underscores
abbrev pub ends_in_two : List ℕ → Bool
ends_in_two name = begins_with_two (reverse name)

-- holds a dot, as the name of a module can
abbrev pub dotted : List ℕ → Bool
dotted [] = false
dotted (b ∷ bs) = b == 46 || dotted bs

-- a private name
abbrev pub is_private : List ℕ → Bool
is_private name = begins_with_two name && (not (ends_in_two name) && not (dotted name))

-- without the underscores at its start
abbrev pub stripped : List ℕ → List ℕ
stripped [] = []
stripped (b ∷ bs) = cond (b == underscore) (stripped bs) (b ∷ bs)

-- a name with the name of a class before it, and an underscore before both; where there is no class, the name alone
abbrev pub under : List ℕ → List ℕ → List ℕ
under [] name = name
under (b ∷ bs) name = underscore ∷ ((b ∷ bs) ++ name)

-- the text of a name that is entered
abbrev pub text_of : Mangled → List ℕ
text_of n = under n.prefix.now n.name.now

-- the name that is entered for a name in a class: a private name under the class's name without its leading underscores,
-- if anything is left of that; any other name as it is. Outside of classes the class's name is empty
abbrev pub mangled : List ℕ → List ℕ → List ℕ
mangled class name = cond (is_private name) (under (stripped class) name) name

abbrev pub class_by : Option (Bor (List ℕ)) → List ℕ
class_by (Some class) = class.now
class_by None = []

-- the name of the class in force where a cursor stands; outside of classes it is empty
abbrev pub class_of : Cursor → List ℕ
class_of b = class_by b.class

-- the part of the class's name that goes before a name: nothing before a name that is not private
abbrev pub class_part : List ℕ → List ℕ → List ℕ
class_part class name = cond (is_private name) (stripped class) []
