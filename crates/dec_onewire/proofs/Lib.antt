mod PulseLaws
mod SegmentLaws
