-- The bank as a machine.
use Rattle.std.specs.Prelude.{◌≡◌, ℕ, ◌<◌, ◌+◌, ◌==◌, Bool, cond, Option, None, Some}
use Rattle.std.specs.FinMap.{get}
use Rattle.oe_theory.specs.Machine.{Machine, Outcome, Here, Missing}
use Rattle.oe_theory_example.specs.Rows.{Tables, Key, Row, Change, Account, AccountKey, Record, Facet, IsThere}
use Rattle.oe_theory_example.specs.Rows.{is_key, row_at}
use Rattle.oe_theory_example.specs.Rows.{key_of, row_of, put, record_of, record_key, restore, put_back, redo}
use Rattle.oe_theory_example.specs.Rows.{Accepts, record_length}
use Rattle.oe_theory_example.specs.Rows.{facet_key, part, governs_part, is_name, governs}
use Rattle.oe_theory_example.specs.declared.Name.{Name}
use Rattle.oe_theory_example.specs.Programs.{Request, Reply, Refusal, NoAccount, IsRequest, MayRefuse, Program}
use Rattle.oe_theory_example.specs.Programs.{program_of, ask, act}
use Rattle.oe_theory_example.specs.Programs.{marks, locks_before, may_allocate, yields, rejection, number_rejection}
use Rattle.oe_theory_example.specs.Programs.{whole_of}
use Rattle.oe_theory_example.specs.Conditions.{sum_map, balance, waiting}

-- between transactions each slip is of a transaction that has committed
abbrev pub Good : (ℕ → ℕ) → Tables → Type 0
Good f r = (k : ℕ × ℕ) → f k.0 < k.1 → get r.journal k ≡ None

-- a query after an account that isn't there is turned away
abbrev pub query_rejection : ℕ → Tables → Option Refusal
query_rejection a r = cond (part (IsThere a) (row_at r (AccountKey a))) None (Some NoAccount)

-- a query finds the account, or that there is none
abbrev pub outcome_of : Option Account → Outcome Account Refusal
outcome_of None = Missing NoAccount
outcome_of (Some a) = Here a

-- an audit: is this all the money in the accounts and in the queues?
abbrev pub is_money : ℕ → Tables → Bool
is_money n r = sum_map balance r.accounts + sum_map waiting r.queues == n

-- terminals are below this number; shut, so that no proof counts them one by one
unfoldable pub terminals : ℕ
terminals = 64

-- the bank's tables, records, locks, programs, queries and audits
abbrev pub bank : Machine
bank =
    record {
      Map = Tables;
      Key = Key;
      Row = Row;
      Change = Change;
      is_key = is_key;
      row_at = row_at;
      key_of = key_of;
      row_of = row_of;
      put = put;
      Accepts = Accepts;
      Layout = Unit {0};
      Record = Record;
      record_of = λ l c before. record_of c before;
      record_key = record_key;
      restore = restore;
      put_back = put_back;
      redo = redo;
      size_of = record_length;
      extent = 4096;
      Facet = Facet;
      Part = Bool;
      facet_key = facet_key;
      part = part;
      Name = Name;
      is_name = is_name;
      governs = governs;
      governs_part = governs_part;
      Request = Request;
      Position = Program;
      Reply = Reply;
      Refusal = Refusal;
      IsRequest = IsRequest;
      MayRefuse = MayRefuse;
      start = λ x. program_of x.request;
      ask = ask;
      act = act;
      marks = marks;
      taken = locks_before;
      whole = λ x r. whole_of x x.request r;
      Good = Good;
      rejection = rejection;
      number_rejection = number_rejection;
      may_allocate = may_allocate;
      yields = yields;
      Query = ℕ;
      Found = Account;
      query_rejection = query_rejection;
      find = λ a r. outcome_of (get r.accounts a);
      Condition = ℕ;
      Verdict = Bool;
      verdict = is_money;
      first_terminal = 0;
      terminal_limit = terminals;
    }
