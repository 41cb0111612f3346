-- What reading answers, as structs for C.
use Rattle.std.specs.Prelude.{ℕ, Bool, true, false, Result, Ok, Err}
use Rattle.std.specs.Option.{is_some, unwrap_or}
use Rattle.refusal.specs.declared.Refusal.{Refusal}
use Rattle.wire_packet.specs.Blank.{zeros32, zeros64}
use Rattle.wire_packet.specs.declared.Request.{Request}
use Rattle.wire_packet.specs.declared.Response.{Response}
use Rattle.wire_packet.specs.declared.SignedParts.{SignedParts}
use Rattle.c_packets.specs.declared.TbRequest.{TbRequest}
use Rattle.c_packets.specs.declared.TbResponse.{TbResponse}
use Rattle.c_packets.specs.declared.TbParts.{TbParts}

-- 1 for yes, 0 for no
abbrev pub flag_of : Bool → ℕ
flag_of true = 1
flag_of false = 0

abbrev pub tb_request : Result Request Refusal → TbRequest
tb_request (Ok q) =
    record {
      code = 0;
      with_srv = flag_of (is_some q.srv);
      at = 0;
      nonc = q.nonc;
      srv = unwrap_or q.srv zeros32;
    }
tb_request (Err why) = record { code = why.code; with_srv = 0; at = why.at; nonc = zeros32; srv = zeros32 }

abbrev pub tb_response : Result Response Refusal → TbResponse
tb_response (Ok q) =
    record {
      code = 0;
      indx = q.indx;
      at = 0;
      midp = q.midp;
      radi = q.radi;
      nonc = q.nonc;
      root = q.root;
    }
tb_response (Err why) =
    record {
      code = why.code;
      indx = 0;
      at = why.at;
      midp = 0;
      radi = 0;
      nonc = zeros32;
      root = zeros32;
    }

abbrev pub tb_parts : Result SignedParts Refusal → TbParts
tb_parts (Ok q) =
    record {
      code = 0;
      at = 0;
      signature = q.signature;
      delegation = q.delegation;
      pubk = q.pubk;
    }
tb_parts (Err why) =
    record {
      code = why.code;
      at = why.at;
      signature = zeros64;
      delegation = zeros64;
      pubk = zeros32;
    }
