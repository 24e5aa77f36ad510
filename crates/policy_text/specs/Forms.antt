-- The two forms in which a policy is shown: the texts that each is put together from.
use Rattle.std.specs.Prelude.{ℕ, Bool, true, not, if◌then◌else◌, List, [], ◌++◌, codes, decimal, ◌==◌}

pub record Shape : Type 0 where
  pub first : List ℕ
  -- a user and where they write, before and after what they see
  pub user : ℕ → ℕ → List ℕ
  pub seen : ℕ → ℕ → List ℕ
  pub user_end : ℕ → List ℕ
  -- a compartment and its capacity, before and after the compartments to which rows may flow
  pub compartment : ℕ → ℕ → List ℕ
  pub shows : ℕ → ℕ → Bool
  pub flow : ℕ → ℕ → List ℕ
  pub compartment_end : List ℕ
  pub last : List ℕ

-- a line for each user and for each compartment
abbrev pub table : Shape
table = record {
  first = [];
  user = λ user writes. codes "user " ++ (decimal user ++ codes " sees");
  seen = λ user c. codes " " ++ decimal c;
  user_end = λ writes. codes ", writes in " ++ (decimal writes ++ codes "\n");
  compartment = λ c capacity.
      if capacity == 1 then codes "compartment " ++ (decimal c ++ codes " has room for 1 row, which may flow to")
      else codes "compartment " ++ (decimal c ++ (codes " has room for "
      ++ (decimal capacity ++ codes " rows, which may flow to")));
  shows = λ from to. true;
  flow = λ from to. codes " " ++ decimal to;
  compartment_end = codes "\n";
  last = [];
}

-- a node for each, and edges; it leaves out that every compartment flows to itself
abbrev pub graph : Shape
graph = record {
  first = codes "digraph policy {\n";
  user = λ user writes.
      codes "    \"user " ++ (decimal user ++ (codes "\";\n    \"user " ++ (decimal user
      ++ (codes "\" -> \"compartment " ++ (decimal writes ++ codes "\";\n")))));
  seen = λ user c.
      codes "    \"compartment " ++ (decimal c ++ (codes "\" -> \"user "
      ++ (decimal user ++ codes "\" [style=dashed];\n")));
  user_end = λ writes. [];
  compartment = λ c capacity. codes "    \"compartment " ++ (decimal c ++ codes "\" [shape=box];\n");
  shows = λ from to. not (from == to);
  flow = λ from to.
      codes "    \"compartment " ++ (decimal from ++ (codes "\" -> \"compartment "
      ++ (decimal to ++ codes "\" [color=blue];\n")));
  compartment_end = [];
  last = codes "}\n";
}
