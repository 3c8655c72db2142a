-- A tree of the code as a tree of the forest.
use Rattle.merkle_forest.specs.Forest.{Tree, leaf, branch}
use Rattle.merkle_forest.specs.declared.forest.Tree.{Tree as CodeTree, Leaf, Branch'}

abbrev pub shape : CodeTree → Tree
shape (Leaf p) = leaf p
shape (Branch' p at_left left at_right right) = branch p (shape left) (shape right)
