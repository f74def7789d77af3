-- What a database with locks and programs has to say of itself, so that the laws of its worlds follow.
use Rattle.std.specs.Prelude.{ℕ, Bool, Option, List}

-- the modes of a lock
pub data Mode : Type 0 where
  Shared : Mode
  Exclusive : Mode

-- what a row's key lies under: no name, since the row never changes; a lock's name; or the one transaction, by its
-- terminal and its number, that the key belongs to
pub data Guard (Name : Type 0) : Type 0 where
  Free : Guard Name
  Under : Name → Guard Name
  Own : ℕ → ℕ → Guard Name

-- what a program asks for before a stage of it: it may stop, go on with no lock, or take a lock
pub data Ask (Name Refusal : Type 0) : Type 0 where
  Stop : Refusal → Ask Name Refusal
  Plain : Ask Name Refusal
  Take : Name → Mode → Ask Name Refusal

-- what a stage of a program does: it may fail, make at most one change and go on, or be ready
pub data Act (Change Position Reply Refusal : Type 0) : Type 0 where
  Fail : Refusal → Act Change Position Reply Refusal
  Go : Option Change → Position → Act Change Position Reply Refusal
  Ready : Reply → Act Change Position Reply Refusal

-- what a query comes to on a version
pub data Outcome (Found Refusal : Type 0) : Type 0 where
  Here : Found → Outcome Found Refusal
  Missing : Refusal → Outcome Found Refusal

-- a transaction, by its terminal, its number and its request
pub record Tx (Request : Type 0) : Type 0 where
  pub terminal : ℕ
  pub number : ℕ
  pub request : Request

-- a lock that is held
pub record Hold (Name : Type 0) : Type 0 where
  pub name : Name
  pub mode : Mode

-- a database with its programs
pub record Machine : Type 1 where
  -- the tables as one map, its keys and rows, and a change of one row, which removes it where `row_of` has none
  pub Map : Type 0
  pub Key : Type 0
  pub Row : Type 0
  pub Change : Type 0
  pub is_key : Key → Key → Bool
  pub row_at : Map → Key → Option Row
  pub key_of : Change → Key
  pub row_of : Change → Option Row
  pub put : Change → Map → Map
  -- the tables accept a change: its key is absent or present as it must be, and what its row refers to is there
  pub Accepts : Change → Map → Type 0
  -- undo records, in a layout that a world keeps from its opening on: a change's, by the row before it; its key; the
  -- row before, by the row that stands there; what putting it back leaves; the change itself, where the row that it
  -- left still stands; and its length, with an extent's (in bytes)
  pub Layout : Type 0
  pub Record : Type 0
  pub record_of : Layout → Change → Option Row → Record
  pub record_key : Record → Key
  pub restore : Record → Option Row → Option Row
  pub put_back : Record → Map → Map
  pub redo : Record → Map → Option Change
  pub size_of : Record → ℕ
  pub extent : ℕ
  -- facets: what can be asked of one row, and read and changed under a guard of its own. Under `Free` it never changes
  pub Facet : Type 0
  pub Part : Type 0
  pub facet_key : Facet → Key
  pub part : Facet → Option Row → Part
  -- locks
  pub Name : Type 0
  pub is_name : Name → Name → Bool
  pub governs : Key → Guard Name
  pub governs_part : Facet → Guard Name
  -- programs
  pub Request : Type 0
  pub Position : Type 0
  pub Reply : Type 0
  pub Refusal : Type 0
  -- a request within the ranges of what terminals may ask for, and the refusals that its program may end with
  pub IsRequest : Request → Type 0
  pub MayRefuse : Request → Refusal → Type 0
  pub start : Tx Request → Position
  pub ask : Tx Request → Position → Map → Ask Name Refusal
  pub act : Tx Request → Position → Map → Act Change Position Reply Refusal
  -- the stage at this position first moves the transaction's mark here
  pub marks : Position → Bool
  -- the locks that were taken on the way to this position
  pub taken : Tx Request → Position → List (Hold Name)
  -- the whole effect at once
  pub whole : Tx Request → Map → Option (Map × Reply)
  -- what holds of the tables between transactions, with the number of commits of each terminal
  pub Good : (ℕ → ℕ) → Map → Type 0
  -- why a request is turned away before anything else is looked at, and why a transaction of this number can't begin
  pub rejection : Request → Map → Option Refusal
  pub number_rejection : ℕ → Option Refusal
  -- memory: the stage at this position may need some beyond its lock's, and a want of it may stand in this refusal's
  -- place
  pub may_allocate : Tx Request → Position → Bool
  pub yields : Tx Request → Position → Refusal → Bool
  -- reads: why a query is turned away, and what it comes to; and audits
  pub Query : Type 0
  pub Found : Type 0
  pub query_rejection : Query → Map → Option Refusal
  pub find : Query → Map → Outcome Found Refusal
  pub Condition : Type 0
  pub Verdict : Type 0
  pub verdict : Condition → Map → Verdict
  -- terminals are from the first of these numbers on, and below the second
  pub first_terminal : ℕ
  pub terminal_limit : ℕ

-- the same database with records of other lengths
abbrev pub with_lengths : (M : Machine) → (M.Record → ℕ) → Machine
with_lengths M f =
    record {
      Map = M.Map;
      Key = M.Key;
      Row = M.Row;
      Change = M.Change;
      is_key = M.is_key;
      row_at = M.row_at;
      key_of = M.key_of;
      row_of = M.row_of;
      put = M.put;
      Accepts = M.Accepts;
      Layout = M.Layout;
      Record = M.Record;
      record_of = M.record_of;
      record_key = M.record_key;
      restore = M.restore;
      put_back = M.put_back;
      redo = M.redo;
      size_of = f;
      extent = M.extent;
      Facet = M.Facet;
      Part = M.Part;
      facet_key = M.facet_key;
      part = M.part;
      Name = M.Name;
      is_name = M.is_name;
      governs = M.governs;
      governs_part = M.governs_part;
      Request = M.Request;
      Position = M.Position;
      Reply = M.Reply;
      Refusal = M.Refusal;
      IsRequest = M.IsRequest;
      MayRefuse = M.MayRefuse;
      start = M.start;
      ask = M.ask;
      act = M.act;
      marks = M.marks;
      taken = M.taken;
      whole = M.whole;
      Good = M.Good;
      rejection = M.rejection;
      number_rejection = M.number_rejection;
      may_allocate = M.may_allocate;
      yields = M.yields;
      Query = M.Query;
      Found = M.Found;
      query_rejection = M.query_rejection;
      find = M.find;
      Condition = M.Condition;
      Verdict = M.Verdict;
      verdict = M.verdict;
      first_terminal = M.first_terminal;
      terminal_limit = M.terminal_limit;
    }
