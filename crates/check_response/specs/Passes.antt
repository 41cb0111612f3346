-- When a response is valid, as document 01 and request P4 say it (draft 19, 5.4): all of these at once. No code stands
-- in it.
use Rattle.std.specs.Prelude.{ℕ, ◌≤◌, ◌≡◌, Bool, true, List}
use Rattle.hash.specs.Hashes.{leaf_of}
use Rattle.wire_message.specs.Tags.{VER, NONC, PATH, ROOT}
use Rattle.wire_message.specs.Values.{value_of}
use Rattle.tree.specs.Leads.{Leads}
use Rattle.wire_packet.specs.Good.{GoodRequest, GoodResponse}
use Rattle.wire_packet.specs.Packet.{body}
use Rattle.wire_packet.specs.Response.{srep, indx_in, ver_in, vers_in, midp_in, mint_in, maxt_in}
use Rattle.wire_packet.specs.Versions.{HoldsVersion}
use Rattle.check_response.specs.Downgrade.{Downgrade}

-- the response packet p to the request packet q, where d and s say whether the delegation's and the response's
-- signatures verify
pub record Passes (q p : List ℕ) (d s : Bool) : Type 0 where
  -- the request lent with it is a good request
  pub request : GoodRequest q
  -- shapes are right, RADI is not 0; TYPE and version are right, and VERS holds the version
  pub shape : GoodResponse p
  -- NONC equals the request's
  pub nonce : value_of (body q) NONC ≡ value_of (body p) NONC
  -- SREP's VER stands in the request's VER
  pub version : HoldsVersion (value_of (body q) VER) (ver_in (body p))
  -- no version that stands in both VERS and the request's VER is larger than SREP's VER
  pub highest : Downgrade (vers_in (body p)) (value_of (body q) VER) (ver_in (body p)) → ⊥
  -- the path leads from the request's leaf to ROOT: a chain of parents, by the bits of INDX, of which none is left over
  pub path : Leads (leaf_of q) (indx_in (body p)) (value_of (body p) PATH) (value_of (srep (body p)) ROOT)
  -- MINT <= MIDP <= MAXT
  pub from : mint_in (body p) ≤ midp_in (body p)
  pub to : midp_in (body p) ≤ maxt_in (body p)
  -- both signature answers are yes
  pub delegation : d ≡ true
  pub signature : s ≡ true
